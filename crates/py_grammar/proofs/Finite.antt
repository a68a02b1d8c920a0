-- Tests over all terminals, forms, needs and states.
use Rattle.std.proofs.Common.{◌≡◌, ℕ, zero, suc, Bool, true, false, ◌&&◌, cond, List, [], ◌∷◌, Option, Some, None, refl, slice_get}
use Rattle.std.specs.Prelude.{find}
use Rattle.std.proofs.lemmas.Bool.{and_parts}
use Rattle.py_grammar.specs.Table.{number, form_number}
use Rattle.py_grammar.specs.Reading.{Among, here, there}
use Rattle.py_grammar.specs.declared.words.Terminal.{Terminal}
use Rattle.py_grammar.specs.declared.words.Terminal.TheVariants as terminals
use Rattle.py_grammar.specs.declared.words.Form.{Form}
use Rattle.py_grammar.specs.declared.words.Form.TheVariants as forms
use Rattle.py_grammar.specs.declared.words.Need.{Need}
use Rattle.py_grammar.specs.declared.words.Need.TheVariants as needs
use Rattle.py_grammar.specs.declared.words.State.{State}
use Rattle.py_grammar.specs.declared.words.State.TheVariants as states

abbrev pub every : {A : Type 0} → (A → Bool) → List A → Bool
every P [] = true
every P (x ∷ xs) = P x && every P xs

pub every_at : {A : Type 0} (P : A → Bool) {x : A} {xs : List A} → Among x xs → every P xs ≡ true → P x ≡ true
every_at P (here {xs = xs}) h = (and_parts _ (every P xs) h).0
every_at P (there {xs = xs} i) h = every_at P i (and_parts _ (every P xs) h).1

abbrev pub implies : Bool → Bool → Bool
implies true b = b
implies false b = true

pub implied : (a b : Bool) → implies a b ≡ true → a ≡ true → b ≡ true
implied true b h e = h
implied false b h e = cc

abbrev pub if_some : {A : Type 0} → Option A → (A → Bool) → Bool
if_some None P = true
if_some (Some x) P = P x

pub at_some : {A : Type 0} (o : Option A) (P : A → Bool) (x : A) → if_some o P ≡ true → o ≡ Some x → P x ≡ true
at_some None P x h e = cc
at_some (Some y) P x h e = let s : y ≡ x = cc in rw s at h

pub found_among : {A : Type 0} (P : A → Bool) (xs : List A) (x : A) → find P xs ≡ Some x → Among x xs × (P x ≡ true)
found_among P [] x e = cc
found_among P (y ∷ ys) x e = go (P y) refl (λ h. found_among P ys x h) e
  where
    go : (b : Bool) → P y ≡ b → (find P ys ≡ Some x → Among x ys × (P x ≡ true)) → cond b (Some y) (find P ys) ≡ Some x → Among x (y ∷ ys) × (P x ≡ true)
    go true h later e = let same : y ≡ x = cc in (rw (← same) here, rw (← same) h)
    go false h later e = let r = later e in (there r.0, r.1)

-- what stands at a place of a list is among it
pub at_place : {A : Type 0} (xs : List A) (i : ℕ) (x : A) → slice_get xs i ≡ Some x → Among x xs
at_place [] i x e = cc
at_place (y ∷ ys) zero x e = let same : y ≡ x = cc in rw (← same) here
at_place (y ∷ ys) (suc i) x e = there (at_place ys i x e)

abbrev pub all_terminals : List Terminal
all_terminals = terminals.Name ∷ terminals.MatchWord ∷ terminals.CaseWord ∷ terminals.TypeWord ∷ terminals.Underscore ∷ terminals.Int ∷ terminals.Float ∷ terminals.Imaginary ∷ terminals.Str ∷ terminals.BytesStr ∷ terminals.FStart ∷ terminals.FText ∷ terminals.FConversion ∷ terminals.FEnd ∷ terminals.FalseWord ∷ terminals.NoneWord ∷ terminals.TrueWord ∷ terminals.And ∷ terminals.As ∷ terminals.Assert ∷ terminals.Async ∷ terminals.Await ∷ terminals.Break ∷ terminals.Class ∷ terminals.Continue ∷ terminals.Def ∷ terminals.Del ∷ terminals.Elif ∷ terminals.Else ∷ terminals.Except ∷ terminals.Finally ∷ terminals.For ∷ terminals.From ∷ terminals.Global ∷ terminals.If ∷ terminals.Import ∷ terminals.In ∷ terminals.Is ∷ terminals.Lambda ∷ terminals.Nonlocal ∷ terminals.Not ∷ terminals.Or ∷ terminals.Pass ∷ terminals.Raise ∷ terminals.Return ∷ terminals.Try ∷ terminals.While ∷ terminals.With ∷ terminals.Yield ∷ terminals.Plus ∷ terminals.Minus ∷ terminals.Tilde ∷ terminals.Star ∷ terminals.DoubleStar ∷ terminals.Slash ∷ terminals.Times ∷ terminals.At ∷ terminals.Shift ∷ terminals.Ampersand ∷ terminals.Bar ∷ terminals.Caret ∷ terminals.Walrus ∷ terminals.Compare ∷ terminals.OpenRound ∷ terminals.CloseRound ∷ terminals.OpenSquare ∷ terminals.CloseSquare ∷ terminals.OpenCurly ∷ terminals.CloseCurly ∷ terminals.Comma ∷ terminals.Colon ∷ terminals.Semicolon ∷ terminals.Dot ∷ terminals.Ellipsis ∷ terminals.Arrow ∷ terminals.Assign ∷ terminals.AugmentedAssign ∷ terminals.Other ∷ terminals.End ∷ []

terminal_among : (x : Terminal) → slice_get all_terminals (number x) ≡ Some x
terminal_among terminals.Name = refl
terminal_among _ = refl

pub each_terminal : (P : Terminal → Bool) (x : Terminal) → every P all_terminals ≡ true → P x ≡ true
each_terminal P x h = every_at P (at_place all_terminals (number x) x (terminal_among x)) h

abbrev pub all_forms : List Form
all_forms = forms.Entries ∷ forms.Named ∷ forms.Lambda ∷ forms.Conditional ∷ forms.Or ∷ forms.And ∷ forms.Not ∷ forms.Comparison ∷ forms.BitOr ∷ forms.BitXor ∷ forms.BitAnd ∷ forms.Shift ∷ forms.Sum ∷ forms.Product ∷ forms.Unary ∷ forms.Power ∷ forms.Await ∷ forms.Attribute ∷ forms.Call ∷ forms.Subscript ∷ forms.Name ∷ forms.TypeName ∷ forms.Underscore ∷ forms.Int ∷ forms.Float ∷ forms.Imaginary ∷ forms.Strings ∷ forms.BytesStrings ∷ forms.NoneValue ∷ forms.TrueValue ∷ forms.FalseValue ∷ forms.Ellipsis ∷ forms.Round ∷ forms.Square ∷ forms.Curly ∷ forms.Starred ∷ forms.DoubleStarred ∷ forms.StarArgument ∷ forms.DoubleStarArgument ∷ forms.Keyword ∷ forms.Item ∷ forms.ComprehensionFor ∷ forms.AsyncComprehensionFor ∷ forms.ComprehensionIf ∷ forms.Targets ∷ forms.IndexTuple ∷ forms.Slice ∷ forms.SliceFrom ∷ forms.Link ∷ forms.Parameter ∷ forms.SlashParameter ∷ forms.StarParameter ∷ forms.DoubleStarParameter ∷ forms.Yield ∷ forms.Field ∷ forms.Format ∷ forms.Statements ∷ forms.Assign ∷ forms.AnnotatedAssign ∷ forms.AugmentedAssign ∷ forms.Pass ∷ forms.Break ∷ forms.Continue ∷ forms.Return ∷ forms.Raise ∷ forms.Global ∷ forms.Nonlocal ∷ forms.Del ∷ forms.Assert ∷ forms.Import ∷ forms.ImportFrom ∷ forms.DottedName ∷ forms.RelativeSource ∷ forms.Alias ∷ forms.FromAlias ∷ forms.TypeAlias ∷ forms.TypeParameters ∷ forms.TypeParameter ∷ forms.StarTypeParameter ∷ forms.DoubleStarTypeParameter ∷ forms.Parameters ∷ forms.AnnotatedParameter ∷ forms.DefStarParameter ∷ forms.DefDoubleStarParameter ∷ forms.Result ∷ forms.Arguments ∷ forms.Suite ∷ forms.If ∷ forms.Elif ∷ forms.Else ∷ forms.While ∷ forms.For ∷ forms.Try ∷ forms.Except ∷ forms.Finally ∷ forms.With ∷ forms.BracketedWith ∷ forms.WithItem ∷ forms.Def ∷ forms.Class ∷ forms.Match ∷ forms.Case ∷ forms.Async ∷ forms.BracketedAsync ∷ forms.Decorator ∷ forms.SignedNumber ∷ forms.ComplexNumber ∷ forms.PatternAttribute ∷ forms.PatternRound ∷ forms.PatternSquare ∷ forms.Patterns ∷ forms.StarPattern ∷ forms.DoubleStarPattern ∷ forms.MappingPattern ∷ forms.PatternItem ∷ forms.ClassPattern ∷ forms.KeywordPattern ∷ forms.OrPattern ∷ forms.AsPattern ∷ []

form_among : (x : Form) → slice_get all_forms (form_number x) ≡ Some x
form_among forms.Entries = refl
form_among _ = refl

pub each_form : (P : Form → Bool) (x : Form) → every P all_forms ≡ true → P x ≡ true
each_form P x h = every_at P (at_place all_forms (form_number x) x (form_among x)) h

abbrev pub all_needs : List Need
all_needs = needs.Expressions ∷ needs.Named ∷ needs.Expression ∷ needs.Disjunction ∷ needs.Conjunction ∷ needs.Inversion ∷ needs.Comparison ∷ needs.BitOr ∷ needs.BitXor ∷ needs.BitAnd ∷ needs.Shift ∷ needs.Sum ∷ needs.Term ∷ needs.Factor ∷ needs.Power ∷ needs.Await ∷ needs.Primary ∷ needs.Atom ∷ needs.Nothing ∷ needs.Identifier ∷ needs.Entry ∷ needs.StarredEntry ∷ needs.StarOperand ∷ needs.Element ∷ needs.CurlyEntry ∷ needs.DoubleStarredEntry ∷ needs.CurlyElement ∷ needs.Argument ∷ needs.UnpackedArgument ∷ needs.AnyArgument ∷ needs.Index ∷ needs.IndexEntry ∷ needs.Target ∷ needs.TargetList ∷ needs.Clause ∷ needs.FurtherClause ∷ needs.Parameter ∷ needs.Link ∷ needs.YieldValue ∷ needs.Field ∷ needs.Format ∷ needs.Line ∷ needs.KeywordLine ∷ needs.SimpleStatement ∷ needs.AssignedPart ∷ needs.AssignedValue ∷ needs.Reference ∷ needs.DottedName ∷ needs.Source ∷ needs.ImportItem ∷ needs.FromItem ∷ needs.TypeKeyword ∷ needs.TypeParameters ∷ needs.TypeParameter ∷ needs.Suite ∷ needs.WithEntry ∷ needs.Parameters ∷ needs.DefParameter ∷ needs.Result ∷ needs.Arguments ∷ needs.AsyncHeader ∷ needs.BracketedWith ∷ needs.Subject ∷ needs.Number ∷ needs.RealNumber ∷ needs.ImaginaryNumber ∷ needs.PatternName ∷ needs.ClosedPattern ∷ needs.Alternatives ∷ needs.Pattern ∷ needs.PatternEntry ∷ needs.StarPattern ∷ needs.CasePattern ∷ needs.CapturedName ∷ needs.PatternKey ∷ needs.DoubleStarPattern ∷ needs.PatternItem ∷ needs.ClassEntry ∷ []

abbrev need_number : Need → ℕ
need_number needs.Expressions = 0
need_number needs.Named = 1
need_number needs.Expression = 2
need_number needs.Disjunction = 3
need_number needs.Conjunction = 4
need_number needs.Inversion = 5
need_number needs.Comparison = 6
need_number needs.BitOr = 7
need_number needs.BitXor = 8
need_number needs.BitAnd = 9
need_number needs.Shift = 10
need_number needs.Sum = 11
need_number needs.Term = 12
need_number needs.Factor = 13
need_number needs.Power = 14
need_number needs.Await = 15
need_number needs.Primary = 16
need_number needs.Atom = 17
need_number needs.Nothing = 18
need_number needs.Identifier = 19
need_number needs.Entry = 20
need_number needs.StarredEntry = 21
need_number needs.StarOperand = 22
need_number needs.Element = 23
need_number needs.CurlyEntry = 24
need_number needs.DoubleStarredEntry = 25
need_number needs.CurlyElement = 26
need_number needs.Argument = 27
need_number needs.UnpackedArgument = 28
need_number needs.AnyArgument = 29
need_number needs.Index = 30
need_number needs.IndexEntry = 31
need_number needs.Target = 32
need_number needs.TargetList = 33
need_number needs.Clause = 34
need_number needs.FurtherClause = 35
need_number needs.Parameter = 36
need_number needs.Link = 37
need_number needs.YieldValue = 38
need_number needs.Field = 39
need_number needs.Format = 40
need_number needs.Line = 41
need_number needs.KeywordLine = 42
need_number needs.SimpleStatement = 43
need_number needs.AssignedPart = 44
need_number needs.AssignedValue = 45
need_number needs.Reference = 46
need_number needs.DottedName = 47
need_number needs.Source = 48
need_number needs.ImportItem = 49
need_number needs.FromItem = 50
need_number needs.TypeKeyword = 51
need_number needs.TypeParameters = 52
need_number needs.TypeParameter = 53
need_number needs.Suite = 54
need_number needs.WithEntry = 55
need_number needs.Parameters = 56
need_number needs.DefParameter = 57
need_number needs.Result = 58
need_number needs.Arguments = 59
need_number needs.AsyncHeader = 60
need_number needs.BracketedWith = 61
need_number needs.Subject = 62
need_number needs.Number = 63
need_number needs.RealNumber = 64
need_number needs.ImaginaryNumber = 65
need_number needs.PatternName = 66
need_number needs.ClosedPattern = 67
need_number needs.Alternatives = 68
need_number needs.Pattern = 69
need_number needs.PatternEntry = 70
need_number needs.StarPattern = 71
need_number needs.CasePattern = 72
need_number needs.CapturedName = 73
need_number needs.PatternKey = 74
need_number needs.DoubleStarPattern = 75
need_number needs.PatternItem = 76
need_number needs.ClassEntry = 77

need_among : (x : Need) → slice_get all_needs (need_number x) ≡ Some x
need_among needs.Expressions = refl
need_among _ = refl

pub each_need : (P : Need → Bool) (x : Need) → every P all_needs ≡ true → P x ≡ true
each_need P x h = every_at P (at_place all_needs (need_number x) x (need_among x)) h

abbrev pub all_states : List State
all_states = states.Done ∷ states.LastExpression ∷ states.LastDisjunction ∷ states.LastConjunction ∷ states.LastInversion ∷ states.LastBitOr ∷ states.LastBitXor ∷ states.LastBitAnd ∷ states.LastShift ∷ states.LastSum ∷ states.LastTerm ∷ states.LastFactor ∷ states.LastPrimary ∷ states.LastStarOperand ∷ states.LastName ∷ states.LastIdentifier ∷ states.EntryNext ∷ states.EntryMore ∷ states.TargetNext ∷ states.TargetMore ∷ states.ConditionalTest ∷ states.ConditionalElse ∷ states.Compared ∷ states.ComparedNot ∷ states.ComparedIs ∷ states.ComparedMore ∷ states.LinkOperand ∷ states.LinkNot ∷ states.LinkIs ∷ states.CallFirst ∷ states.CallAfterFirst ∷ states.CallNext ∷ states.CallMore ∷ states.RoundClauses ∷ states.IndexFirst ∷ states.IndexClose ∷ states.IndexNext ∷ states.IndexMore ∷ states.LambdaNext ∷ states.LambdaMore ∷ states.StarParameterName ∷ states.RoundFirst ∷ states.RoundClose ∷ states.RoundAfterFirst ∷ states.RoundNext ∷ states.RoundMore ∷ states.SquareFirst ∷ states.SquareAfterFirst ∷ states.SquareClauses ∷ states.SquareNext ∷ states.SquareMore ∷ states.CurlyFirst ∷ states.CurlyAfterFirst ∷ states.CurlyClauses ∷ states.CurlyNext ∷ states.CurlyMore ∷ states.AsyncFor ∷ states.ForTargets ∷ states.ForIn ∷ states.SliceFirst ∷ states.SliceSecond ∷ states.SliceStep ∷ states.YieldFirst ∷ states.FieldFirst ∷ states.FieldTail ∷ states.FieldAssign ∷ states.FieldConverted ∷ states.FieldClose ∷ states.FormatNext ∷ states.FBody ∷ states.StringsMore ∷ states.BytesMore ∷ states.StatementNext ∷ states.StatementMore ∷ states.AssignNext ∷ states.AssignMore ∷ states.AnnotationFirst ∷ states.AnnotationMore ∷ states.LastAssigned ∷ states.ReturnFirst ∷ states.RaiseFirst ∷ states.RaiseMore ∷ states.NameNext ∷ states.NameMore ∷ states.LastTargets ∷ states.AssertFirst ∷ states.AssertMore ∷ states.ImportNext ∷ states.ImportMore ∷ states.FromSource ∷ states.FromImport ∷ states.FromFirst ∷ states.FromNext ∷ states.FromMore ∷ states.FromBracketed ∷ states.FromBracketedMore ∷ states.FromBracketedNext ∷ states.DotsMore ∷ states.DottedNext ∷ states.DottedMore ∷ states.AliasParameters ∷ states.AliasAssign ∷ states.TypeParametersFirst ∷ states.TypeParametersNext ∷ states.TypeParametersMore ∷ states.SuiteFirst ∷ states.SuiteNext ∷ states.SuiteMore ∷ states.LastSuite ∷ states.HeaderTest ∷ states.LoopTargets ∷ states.LoopIn ∷ states.LoopOver ∷ states.ExceptFirst ∷ states.ExceptClass ∷ states.ExceptMore ∷ states.ExceptName ∷ states.WithNext ∷ states.WithMore ∷ states.BracketedWithFirst ∷ states.BracketedItem ∷ states.BracketedItemNext ∷ states.BracketedItemMore ∷ states.LastTarget ∷ states.DefName ∷ states.DefParameters ∷ states.DefBracket ∷ states.DefResult ∷ states.ParametersNext ∷ states.ParametersMore ∷ states.ParameterAnnotation ∷ states.ParameterDefault ∷ states.DefStarName ∷ states.DefDoubleStarName ∷ states.StarAnnotation ∷ states.ClassName ∷ states.ClassParameters ∷ states.ClassBracket ∷ states.AsyncFirst ∷ states.BracketedAsyncFirst ∷ states.LastNamed ∷ states.MatchSubject ∷ states.MatchColon ∷ states.CaseFirst ∷ states.CaseGuard ∷ states.LastNumber ∷ states.LastImaginary ∷ states.LastPattern ∷ states.LastCapturedName ∷ states.PatternRoundFirst ∷ states.PatternRoundStar ∷ states.PatternRoundNext ∷ states.PatternRoundMore ∷ states.PatternSquareNext ∷ states.PatternSquareMore ∷ states.PatternsNext ∷ states.PatternsMore ∷ states.MappingNext ∷ states.MappingMore ∷ states.MappingRest ∷ states.MappingClose ∷ states.ClassPatternNext ∷ states.ClassPatternMore ∷ states.OrNext ∷ states.OrMore ∷ []

abbrev state_number : State → ℕ
state_number states.Done = 0
state_number states.LastExpression = 1
state_number states.LastDisjunction = 2
state_number states.LastConjunction = 3
state_number states.LastInversion = 4
state_number states.LastBitOr = 5
state_number states.LastBitXor = 6
state_number states.LastBitAnd = 7
state_number states.LastShift = 8
state_number states.LastSum = 9
state_number states.LastTerm = 10
state_number states.LastFactor = 11
state_number states.LastPrimary = 12
state_number states.LastStarOperand = 13
state_number states.LastName = 14
state_number states.LastIdentifier = 15
state_number states.EntryNext = 16
state_number states.EntryMore = 17
state_number states.TargetNext = 18
state_number states.TargetMore = 19
state_number states.ConditionalTest = 20
state_number states.ConditionalElse = 21
state_number states.Compared = 22
state_number states.ComparedNot = 23
state_number states.ComparedIs = 24
state_number states.ComparedMore = 25
state_number states.LinkOperand = 26
state_number states.LinkNot = 27
state_number states.LinkIs = 28
state_number states.CallFirst = 29
state_number states.CallAfterFirst = 30
state_number states.CallNext = 31
state_number states.CallMore = 32
state_number states.RoundClauses = 33
state_number states.IndexFirst = 34
state_number states.IndexClose = 35
state_number states.IndexNext = 36
state_number states.IndexMore = 37
state_number states.LambdaNext = 38
state_number states.LambdaMore = 39
state_number states.StarParameterName = 40
state_number states.RoundFirst = 41
state_number states.RoundClose = 42
state_number states.RoundAfterFirst = 43
state_number states.RoundNext = 44
state_number states.RoundMore = 45
state_number states.SquareFirst = 46
state_number states.SquareAfterFirst = 47
state_number states.SquareClauses = 48
state_number states.SquareNext = 49
state_number states.SquareMore = 50
state_number states.CurlyFirst = 51
state_number states.CurlyAfterFirst = 52
state_number states.CurlyClauses = 53
state_number states.CurlyNext = 54
state_number states.CurlyMore = 55
state_number states.AsyncFor = 56
state_number states.ForTargets = 57
state_number states.ForIn = 58
state_number states.SliceFirst = 59
state_number states.SliceSecond = 60
state_number states.SliceStep = 61
state_number states.YieldFirst = 62
state_number states.FieldFirst = 63
state_number states.FieldTail = 64
state_number states.FieldAssign = 65
state_number states.FieldConverted = 66
state_number states.FieldClose = 67
state_number states.FormatNext = 68
state_number states.FBody = 69
state_number states.StringsMore = 70
state_number states.BytesMore = 71
state_number states.StatementNext = 72
state_number states.StatementMore = 73
state_number states.AssignNext = 74
state_number states.AssignMore = 75
state_number states.AnnotationFirst = 76
state_number states.AnnotationMore = 77
state_number states.LastAssigned = 78
state_number states.ReturnFirst = 79
state_number states.RaiseFirst = 80
state_number states.RaiseMore = 81
state_number states.NameNext = 82
state_number states.NameMore = 83
state_number states.LastTargets = 84
state_number states.AssertFirst = 85
state_number states.AssertMore = 86
state_number states.ImportNext = 87
state_number states.ImportMore = 88
state_number states.FromSource = 89
state_number states.FromImport = 90
state_number states.FromFirst = 91
state_number states.FromNext = 92
state_number states.FromMore = 93
state_number states.FromBracketed = 94
state_number states.FromBracketedMore = 95
state_number states.FromBracketedNext = 96
state_number states.DotsMore = 97
state_number states.DottedNext = 98
state_number states.DottedMore = 99
state_number states.AliasParameters = 100
state_number states.AliasAssign = 101
state_number states.TypeParametersFirst = 102
state_number states.TypeParametersNext = 103
state_number states.TypeParametersMore = 104
state_number states.SuiteFirst = 105
state_number states.SuiteNext = 106
state_number states.SuiteMore = 107
state_number states.LastSuite = 108
state_number states.HeaderTest = 109
state_number states.LoopTargets = 110
state_number states.LoopIn = 111
state_number states.LoopOver = 112
state_number states.ExceptFirst = 113
state_number states.ExceptClass = 114
state_number states.ExceptMore = 115
state_number states.ExceptName = 116
state_number states.WithNext = 117
state_number states.WithMore = 118
state_number states.BracketedWithFirst = 119
state_number states.BracketedItem = 120
state_number states.BracketedItemNext = 121
state_number states.BracketedItemMore = 122
state_number states.LastTarget = 123
state_number states.DefName = 124
state_number states.DefParameters = 125
state_number states.DefBracket = 126
state_number states.DefResult = 127
state_number states.ParametersNext = 128
state_number states.ParametersMore = 129
state_number states.ParameterAnnotation = 130
state_number states.ParameterDefault = 131
state_number states.DefStarName = 132
state_number states.DefDoubleStarName = 133
state_number states.StarAnnotation = 134
state_number states.ClassName = 135
state_number states.ClassParameters = 136
state_number states.ClassBracket = 137
state_number states.AsyncFirst = 138
state_number states.BracketedAsyncFirst = 139
state_number states.LastNamed = 140
state_number states.MatchSubject = 141
state_number states.MatchColon = 142
state_number states.CaseFirst = 143
state_number states.CaseGuard = 144
state_number states.LastNumber = 145
state_number states.LastImaginary = 146
state_number states.LastPattern = 147
state_number states.LastCapturedName = 148
state_number states.PatternRoundFirst = 149
state_number states.PatternRoundStar = 150
state_number states.PatternRoundNext = 151
state_number states.PatternRoundMore = 152
state_number states.PatternSquareNext = 153
state_number states.PatternSquareMore = 154
state_number states.PatternsNext = 155
state_number states.PatternsMore = 156
state_number states.MappingNext = 157
state_number states.MappingMore = 158
state_number states.MappingRest = 159
state_number states.MappingClose = 160
state_number states.ClassPatternNext = 161
state_number states.ClassPatternMore = 162
state_number states.OrNext = 163
state_number states.OrMore = 164

state_among : (x : State) → slice_get all_states (state_number x) ≡ Some x
state_among states.Done = refl
state_among _ = refl

pub each_state : (P : State → Bool) (x : State) → every P all_states ≡ true → P x ≡ true
each_state P x h = every_at P (at_place all_states (state_number x) x (state_among x)) h
