-- What is handed on by one node and then by another is handed on by both.
use Rattle.std.proofs.Common.{◌≡◌, Bool, true, false, List, [], ◌∷◌, refl, sym, ap, ◌∙◌, if◌then◌else◌}
use Rattle.std.specs.Prelude.{Option, Some, None}
use Rattle.std.specs.Option.{option_map}
use Rattle.py_base.specs.declared.node.Node.{Node}
use Rattle.node_shapes.specs.declared.outward.Step.{Step}
use Rattle.node_shapes.specs.Uses.{use_at, is_inherited, inheriting, deciding}
use Rattle.binding_sources.specs.declared.sources.Part.{Part}
use Rattle.binding_sources.specs.declared.sources.Handing.{Handing}
use Rattle.binding_sources.specs.declared.sources.Handing.TheVariants as handings
use Rattle.binding_sources.specs.declared.sources.Source.{Source}
use Rattle.binding_sources.specs.declared.sources.Source.TheVariants as source
use Rattle.binding_sources.specs.Sources.{is_removed, is_undivided, unknown_unless_removed, part_in, through, handing, handed_through, given, source_along}
use Rattle.binding_sources.specs.Joining.{joined}

abbrev unknown_or : Bool → Source
unknown_or removed = if removed then source.Removed else source.Unknown

abbrev part_or : Part → Bool → Bool → Source
part_or p removed undivided = if removed then source.Removed else (if undivided then source.Unknown else source.Part p)

part-part : (p q : Part) (removed undivided : Bool) → part_in p (part_or q removed undivided) ≡ part_or p removed undivided
part-part p q true undivided = refl
part-part p q false true = refl
part-part p q false false = refl

part-unknown : (p : Part) (removed : Bool) → part_in p (unknown_or removed) ≡ unknown_or removed
part-unknown p true = refl
part-unknown p false = refl

unknown-part : (q : Part) (removed undivided : Bool) → unknown_unless_removed (part_or q removed undivided) ≡ unknown_or removed
unknown-part q true undivided = refl
unknown-part q false true = refl
unknown-part q false false = refl

unknown-unknown : (removed : Bool) → unknown_unless_removed (unknown_or removed) ≡ unknown_or removed
unknown-unknown true = refl
unknown-unknown false = refl

through-joined : (h k : Handing) (g : Source) → through h (through k g) ≡ through (joined h k) g
through-joined handings.Whole k g = refl
through-joined (handings.Part p) handings.Whole g = refl
through-joined (handings.Part p) (handings.Part q) g = part-part p q (is_removed g) (is_undivided g)
through-joined (handings.Part p) handings.Unknown g = part-unknown p (is_removed g)
through-joined handings.Unknown handings.Whole g = refl
through-joined handings.Unknown (handings.Part q) g = unknown-part q (is_removed g) (is_undivided g)
through-joined handings.Unknown handings.Unknown g = unknown-unknown (is_removed g)

pub handed-whole : (o : Option Source) → option_map (through handings.Whole) o ≡ o
handed-whole None = refl
handed-whole (Some g) = refl

handed-joined : (h k : Handing) (o : Option Source) → option_map (through h) (option_map (through k) o) ≡ option_map (through (joined h k)) o
handed-joined h k None = refl
handed-joined h k (Some g) = ap Some (through-joined h k g)

-- A step that hands on takes part in what the steps behind it give.
pub inherited-step : (nodes : List Node) (s : Step) (way : List Step) (h k j : Handing) → is_inherited (use_at s) ≡ true → k ≡ handing nodes s → j ≡ joined h k
    → option_map (through h) (source_along nodes (s ∷ way)) ≡ option_map (through j) (source_along nodes way)
inherited-step nodes s way h k j inherits is made =
    ap (λ b. option_map (through h) (handed_through nodes (if b then s ∷ inheriting way else []) (given nodes (if b then deciding way else s ∷ way)))) inherits
    ∙ handed-joined h (handing nodes s) (source_along nodes way) ∙ ap (λ x. option_map (through (joined h x)) (source_along nodes way)) (sym is) ∙ ap (λ x. option_map (through x) (source_along nodes way)) (sym made)

-- and at one that doesn't, it is what that step gives
pub deciding-step : (nodes : List Node) (s : Step) (way : List Step) → is_inherited (use_at s) ≡ false → source_along nodes (s ∷ way) ≡ given nodes (s ∷ way)
deciding-step nodes s way decides = ap (λ b. handed_through nodes (if b then s ∷ inheriting way else []) (given nodes (if b then deciding way else s ∷ way))) decides
