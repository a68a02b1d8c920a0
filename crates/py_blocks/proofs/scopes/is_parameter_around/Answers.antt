use Rattle.std.proofs.Common.{◌≡◌, List, ℕ, Option, Some, None, sym, ap, ◌∙◌}
use Rattle.py_blocks.specs.Facts.{among}
use Rattle.py_blocks.specs.Enclosing.{line_at}
use Rattle.py_blocks.specs.Innermost.{scopes_of}
use Rattle.py_blocks.specs.Innermost.{has_one}
use Rattle.py_blocks.specs.NameSets.{body_in}
use Rattle.py_blocks.proofs.Owners.{parameter-around}
use Rattle.py_blocks.proofs.scopes.is_parameter_around.Goals as goal

pub returns-in-Some : goal.returns-in-Some
returns-in-Some c =
    let lines = c.args.lines.now in
    let at = c.args.at in
    let name = c.args.name.now in
    let body : body_in lines (scopes_of lines) at ≡ Some c.in-Some.scope = sym (ap (λ (ls : List (Option ℕ)). body_in lines ls at) c.requires.scopes) ∙ (sym c.body_in.ensures ∙ c.in-Some.is) in
    c.is_own_parameter.ensures
    ∙ (ap (λ (n : List ℕ). among n (line_at lines c.in-Some.scope).parameters) c.as_str.ensures
    ∙ (ap (λ (o : Option ℕ). has_one (λ d. among name (line_at lines d).parameters) o) (sym body) ∙ sym (parameter-around lines at name c.requires.within)))

pub returns-in-None : goal.returns-in-None
returns-in-None c =
    let lines = c.args.lines.now in
    let at = c.args.at in
    let name = c.args.name.now in
    let body : body_in lines (scopes_of lines) at ≡ None = sym (ap (λ (ls : List (Option ℕ)). body_in lines ls at) c.requires.scopes) ∙ (sym c.body_in.ensures ∙ c.in-None.is) in
    ap (λ (o : Option ℕ). has_one (λ d. among name (line_at lines d).parameters) o) (sym body) ∙ sym (parameter-around lines at name c.requires.within)
