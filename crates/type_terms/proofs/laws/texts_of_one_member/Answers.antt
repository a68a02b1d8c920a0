use Rattle.type_terms.proofs.SmallTexts.{text-none, text-Unknown, text-None, text-True, text-Int, text-Str}
use Rattle.type_terms.proofs.laws.texts_of_one_member.Goals as goal

pub returns : goal.returns
returns c = record { never = text-none; unknown = text-Unknown; none = text-None; truth = text-True; int = text-Int; string = text-Str }
