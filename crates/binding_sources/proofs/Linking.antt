-- A chain by its links, from the last name to the first.
use Rattle.std.proofs.Common.{◌≡◌, ℕ, zero, suc, ◌<◌, List, [], ◌∷◌, ◌++◌, refl, sym, ap, ◌∙◌, arith}
use Rattle.std.specs.Prelude.{Option, Some, None}
use Rattle.std.specs.Option.{option_map}
use Rattle.py_base.specs.declared.ids.NodeId.{NodeId}
use Rattle.py_base.specs.declared.ids.NameId.{NameId}
use Rattle.py_base.specs.declared.node.Node.{Node}
use Rattle.node_shapes.specs.declared.expressions.Expression.{Expression}
use Rattle.node_shapes.specs.declared.expressions.Expression.TheVariants as form
use Rattle.node_shapes.specs.Chains.{Chain, chain_by, chain_within, longer}
use Rattle.node_shapes.specs.Expressions.{expression}
use Rattle.binding_sources.specs.declared.chains.NamesBehind.{NamesBehind}
use Rattle.binding_sources.specs.declared.chains.NamesBehind.TheVariants as behinds
use Rattle.binding_sources.specs.declared.chains.Link.{Link}
use Rattle.binding_sources.specs.declared.chains.Link.TheVariants as links
use Rattle.binding_sources.specs.declared.chains.ShortChain.{ShortChain}
use Rattle.binding_sources.specs.Meanings.{behind, short_chain}
use Rattle.binding_sources.specs.Joining.{with_name, link_by}

abbrev longer_by : Option NameId → Option Chain → Option Chain
longer_by None o = o
longer_by (Some name) o = longer name o

abbrev chain_of_link : (NodeId → Option Chain) → NodeId → Link → Option Chain
chain_of_link inner n links.First = Some (record { first = n; names = [] })
chain_of_link inner n (links.Further e name) = longer_by name (inner e)
chain_of_link inner n links.NoLink = None

by-link : (inner : NodeId → Option Chain) (n : NodeId) (e : Expression) → chain_by inner n e ≡ chain_of_link inner n (link_by e)
by-link inner n (form.Name m) = refl
by-link inner n (form.Attribute e name) = refl
by-link inner n (form.Group e) = refl
by-link inner n e = refl

-- names, and those that stand behind them
abbrev pub ended : List NameId → NamesBehind → NamesBehind
ended [] further = further
ended (name ∷ names) further = with_name (Some name) (ended names further)

ended-last : (names : List NameId) (name : NameId) (further : NamesBehind) → ended (names ++ name ∷ []) further ≡ ended names (with_name (Some name) further)
ended-last [] name further = refl
ended-last (x ∷ names) name further = ap (with_name (Some x)) (ended-last names name further)

several : (x y : NameId) (further : NamesBehind) → with_name (Some x) (with_name (Some y) further) ≡ behinds.Several
several x y behinds.Nothing = refl
several x y (behinds.Name z) = refl
several x y behinds.Several = refl

ended-nothing : (names : List NameId) → ended names behinds.Nothing ≡ behind names
ended-nothing [] = refl
ended-nothing (x ∷ []) = refl
ended-nothing (x ∷ y ∷ names) = several x y (ended names behinds.Nothing)

abbrev pub ended_chain : NamesBehind → Chain → ShortChain
ended_chain further c = record { first = c.first; behind = ended c.names further }

pub ended-start : (o : Option Chain) → option_map (ended_chain behinds.Nothing) o ≡ option_map short_chain o
ended-start None = refl
ended-start (Some c) = ap (λ b. Some (record { first = c.first; behind = b })) (ended-nothing c.names)

ended-longer : (name : Option NameId) (further : NamesBehind) (o : Option Chain) → option_map (ended_chain further) (longer_by name o) ≡ option_map (ended_chain (with_name name further)) o
ended-longer None further o = refl
ended-longer (Some name) further None = refl
ended-longer (Some name) further (Some c) = ap (λ b. Some (record { first = c.first; behind = b })) (ended-last c.names name further)

pub link-step : (nodes : List Node) (here : NodeId) (left : ℕ) (link : Link) → link ≡ link_by (expression nodes here) → chain_within (suc left) nodes here ≡ chain_of_link (chain_within left nodes) here link
link-step nodes here left link e = by-link (chain_within left nodes) here (expression nodes here) ∙ ap (chain_of_link (chain_within left nodes) here) (sym e)

pub first-step : (nodes : List Node) (here : NodeId) (left : ℕ) (further : NamesBehind) → 0 < left → links.First ≡ link_by (expression nodes here)
    → option_map (ended_chain further) (chain_within left nodes here) ≡ Some (record { first = here; behind = further })
first-step nodes here zero further lt e = absurd (omega (arith, lt))
first-step nodes here (suc left) further lt e = ap (option_map (ended_chain further)) (link-step nodes here left links.First e)

pub last-step : (nodes : List Node) (here : NodeId) (left : ℕ) (further : NamesBehind) → links.NoLink ≡ link_by (expression nodes here) → option_map (ended_chain further) (chain_within left nodes here) ≡ None
last-step nodes here zero further e = refl
last-step nodes here (suc left) further e = ap (option_map (ended_chain further)) (link-step nodes here left links.NoLink e)

pub further-step : (nodes : List Node) (here inner : NodeId) (name : Option NameId) (left fewer : ℕ) (further next : NamesBehind) → left ≡ suc fewer → links.Further inner name ≡ link_by (expression nodes here)
    → next ≡ with_name name further → option_map (ended_chain further) (chain_within left nodes here) ≡ option_map (ended_chain next) (chain_within fewer nodes inner)
further-step nodes here inner name left fewer further next one e made =
    ap (λ k. option_map (ended_chain further) (chain_within k nodes here)) one
    ∙ ap (option_map (ended_chain further)) (link-step nodes here fewer (links.Further inner name) e) ∙ ended-longer name further (chain_within fewer nodes inner)
    ∙ ap (λ b. option_map (ended_chain b) (chain_within fewer nodes inner)) (sym made)
