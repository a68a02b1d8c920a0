-- The grammar of a line as one table: the forms that a token begins and those that it goes on with, the tokens and parts that a form
-- has at each of its states, and what each place asks (Python 3.12 language reference, sections 6, 7 and 8, and the table of precedence
-- in 6.17; the full grammar, section 10). A form that comes costs its rows here.
use Rattle.std.specs.Prelude.{◌==◌, find, ℕ, Bool, true, false, ◌||◌, nat_le, Option, Some, None, List, [], ◌∷◌, if◌then◌else◌}
use Rattle.std.specs.List.{list_any}
use Rattle.py_grammar.specs.declared.words.Terminal.{Terminal}
use Rattle.py_grammar.specs.declared.words.Terminal.TheVariants as terminals
use Rattle.py_grammar.specs.declared.words.Form.{Form}
use Rattle.py_grammar.specs.declared.words.Form.TheVariants as forms
use Rattle.py_grammar.specs.declared.words.Need.{Need}
use Rattle.py_grammar.specs.declared.words.Need.TheVariants as needs
use Rattle.py_grammar.specs.declared.words.State.{State}
use Rattle.py_grammar.specs.declared.words.State.TheVariants as states
use Rattle.py_grammar.specs.declared.words.Opening.{Opening}
use Rattle.py_grammar.specs.declared.words.Joint.{Joint}
use Rattle.py_grammar.specs.declared.words.Edge.{Edge}
use Rattle.py_grammar.specs.declared.words.Place.{Place}

-- how tightly a form binds: 0 is entries by commas, 17 names and brackets
abbrev pub level : Form → Option ℕ
level forms.Entries = Some 0
level forms.Named = Some 1
level forms.Lambda = Some 2
level forms.Conditional = Some 2
level forms.Or = Some 3
level forms.And = Some 4
level forms.Not = Some 5
level forms.Comparison = Some 6
level forms.BitOr = Some 7
level forms.BitXor = Some 8
level forms.BitAnd = Some 9
level forms.Shift = Some 10
level forms.Sum = Some 11
level forms.Product = Some 12
level forms.Unary = Some 13
level forms.Power = Some 14
level forms.Await = Some 15
level forms.Attribute = Some 16
level forms.Call = Some 16
level forms.Subscript = Some 16
level forms.Name = Some 17
level forms.TypeName = Some 17
level forms.Underscore = Some 17
level forms.Int = Some 17
level forms.Float = Some 17
level forms.Imaginary = Some 17
level forms.Strings = Some 17
level forms.BytesStrings = Some 17
level forms.NoneValue = Some 17
level forms.TrueValue = Some 17
level forms.FalseValue = Some 17
level forms.Ellipsis = Some 17
level forms.Round = Some 17
level forms.Square = Some 17
level forms.Curly = Some 17
level _ = None

-- the level that a place asks
abbrev pub mark : Need → Option ℕ
mark needs.Expressions = Some 0
mark needs.Named = Some 1
mark needs.Expression = Some 2
mark needs.Disjunction = Some 3
mark needs.Conjunction = Some 4
mark needs.Inversion = Some 5
mark needs.Comparison = Some 6
mark needs.BitOr = Some 7
mark needs.BitXor = Some 8
mark needs.BitAnd = Some 9
mark needs.Shift = Some 10
mark needs.Sum = Some 11
mark needs.Term = Some 12
mark needs.Factor = Some 13
mark needs.Power = Some 14
mark needs.Await = Some 15
mark needs.Primary = Some 16
mark needs.Atom = Some 17
mark needs.Entry = Some 2
mark needs.StarOperand = Some 7
mark needs.Element = Some 1
mark needs.CurlyEntry = Some 1
mark needs.CurlyElement = Some 1
mark needs.Argument = Some 1
mark needs.AnyArgument = Some 1
mark needs.Index = Some 1
mark needs.IndexEntry = Some 1
mark needs.Target = Some 7
mark needs.TargetList = Some 7
mark needs.Line = Some 0
mark needs.SimpleStatement = Some 0
mark needs.AssignedPart = Some 0
mark needs.AssignedValue = Some 0
mark needs.WithEntry = Some 2
mark needs.Subject = Some 0
mark _ = None

-- the forms of a name
abbrev pub names : List Form
names = forms.Name ∷ forms.TypeName ∷ forms.Underscore ∷ []

-- the simple statements that are no expressions
abbrev pub simple_statements : List Form
simple_statements =
    forms.Yield ∷ forms.Assign ∷ forms.AnnotatedAssign ∷ forms.AugmentedAssign ∷ forms.Pass ∷ forms.Break ∷ forms.Continue ∷ forms.Return
    ∷ forms.Raise ∷ forms.Global ∷ forms.Nonlocal ∷ forms.Del ∷ forms.Assert ∷ forms.Import ∷ forms.ImportFrom ∷ forms.TypeAlias ∷ []

-- the patterns that are keys of a mapping
abbrev pub pattern_keys : List Form
pattern_keys =
    forms.Int ∷ forms.Float ∷ forms.Imaginary ∷ forms.Strings ∷ forms.BytesStrings ∷ forms.NoneValue ∷ forms.TrueValue ∷ forms.FalseValue
    ∷ forms.SignedNumber ∷ forms.ComplexNumber ∷ forms.PatternAttribute ∷ []

-- the patterns without `|` and `as`
abbrev pub closed_patterns : List Form
closed_patterns =
    forms.PatternRound ∷ forms.PatternSquare ∷ forms.MappingPattern ∷ forms.ClassPattern ∷ forms.Name ∷ forms.TypeName ∷ forms.Underscore
    ∷ pattern_keys

-- the forms that a place takes whatever their level
abbrev pub besides : Need → List Form
besides needs.Identifier = names
besides needs.Entry = forms.Starred ∷ []
besides needs.StarredEntry = forms.Starred ∷ []
besides needs.StarOperand = forms.Starred ∷ []
besides needs.Element = forms.Starred ∷ []
besides needs.CurlyEntry = forms.Item ∷ []
besides needs.DoubleStarredEntry = forms.DoubleStarred ∷ []
besides needs.CurlyElement = forms.Item ∷ forms.Starred ∷ forms.DoubleStarred ∷ []
besides needs.Argument = forms.Keyword ∷ []
besides needs.UnpackedArgument = forms.StarArgument ∷ forms.DoubleStarArgument ∷ []
besides needs.AnyArgument = forms.Keyword ∷ forms.StarArgument ∷ forms.DoubleStarArgument ∷ []
besides needs.Index = forms.StarArgument ∷ forms.Slice ∷ forms.SliceFrom ∷ forms.IndexTuple ∷ []
besides needs.IndexEntry = forms.StarArgument ∷ forms.Slice ∷ forms.SliceFrom ∷ []
besides needs.Target = forms.Starred ∷ []
besides needs.TargetList = forms.Starred ∷ forms.Targets ∷ []
besides needs.Clause = forms.ComprehensionFor ∷ forms.AsyncComprehensionFor ∷ []
besides needs.FurtherClause = forms.ComprehensionFor ∷ forms.AsyncComprehensionFor ∷ forms.ComprehensionIf ∷ []
besides needs.Parameter = forms.Parameter ∷ forms.SlashParameter ∷ forms.StarParameter ∷ forms.DoubleStarParameter ∷ names
besides needs.Link = forms.Link ∷ []
besides needs.YieldValue = forms.Yield ∷ []
besides needs.Field = forms.Field ∷ []
besides needs.Format = forms.Format ∷ []
besides needs.Line = forms.Statements ∷ forms.If ∷ forms.Elif ∷ forms.Else ∷ forms.While ∷ forms.For ∷ forms.Try ∷ forms.Except ∷ forms.Finally ∷ forms.With ∷ forms.Def ∷ forms.Class ∷ forms.Async ∷ forms.Decorator ∷ simple_statements
besides needs.KeywordLine = forms.Match ∷ forms.Case ∷ forms.BracketedWith ∷ forms.BracketedAsync ∷ []
besides needs.SimpleStatement = simple_statements
besides needs.AssignedPart = forms.Starred ∷ forms.Yield ∷ []
besides needs.AssignedValue = forms.Yield ∷ []
besides needs.Reference = forms.Attribute ∷ forms.Subscript ∷ names
besides needs.DottedName = forms.DottedName ∷ names
besides needs.Source = forms.DottedName ∷ forms.RelativeSource ∷ names
besides needs.ImportItem = forms.DottedName ∷ forms.Alias ∷ names
besides needs.FromItem = forms.FromAlias ∷ names
besides needs.TypeKeyword = forms.TypeName ∷ []
besides needs.TypeParameters = forms.TypeParameters ∷ []
besides needs.TypeParameter = forms.TypeParameter ∷ forms.StarTypeParameter ∷ forms.DoubleStarTypeParameter ∷ names
besides needs.Suite = forms.Suite ∷ []
besides needs.WithEntry = forms.WithItem ∷ []
besides needs.Parameters = forms.Parameters ∷ []
besides needs.DefParameter = forms.Parameter ∷ forms.AnnotatedParameter ∷ forms.SlashParameter ∷ forms.DefStarParameter ∷ forms.DefDoubleStarParameter ∷ names
besides needs.Result = forms.Result ∷ []
besides needs.Arguments = forms.Arguments ∷ []
besides needs.AsyncHeader = forms.For ∷ forms.With ∷ forms.Def ∷ []
besides needs.BracketedWith = forms.BracketedWith ∷ []
besides needs.Subject = forms.Named ∷ []
besides needs.Number = forms.Int ∷ forms.Float ∷ forms.Imaginary ∷ []
besides needs.RealNumber = forms.Int ∷ forms.Float ∷ forms.SignedNumber ∷ []
besides needs.ImaginaryNumber = forms.Imaginary ∷ []
besides needs.PatternName = forms.PatternAttribute ∷ names
besides needs.ClosedPattern = closed_patterns
besides needs.Alternatives = forms.OrPattern ∷ closed_patterns
besides needs.Pattern = forms.OrPattern ∷ forms.AsPattern ∷ closed_patterns
besides needs.PatternEntry = forms.OrPattern ∷ forms.AsPattern ∷ forms.StarPattern ∷ closed_patterns
besides needs.StarPattern = forms.StarPattern ∷ []
besides needs.CasePattern = forms.OrPattern ∷ forms.AsPattern ∷ forms.Patterns ∷ closed_patterns
besides needs.CapturedName = forms.Name ∷ forms.TypeName ∷ []
besides needs.PatternKey = pattern_keys
besides needs.DoubleStarPattern = forms.DoubleStarPattern ∷ []
besides needs.PatternItem = forms.PatternItem ∷ []
besides needs.ClassEntry = forms.OrPattern ∷ forms.AsPattern ∷ forms.KeywordPattern ∷ closed_patterns
besides _ = []

-- the forms at the left edge of what a place takes, on the way to a form that it takes
abbrev pub beneath : Need → List Form
beneath needs.Expressions = forms.Starred ∷ []
beneath needs.Line = forms.Starred ∷ []
beneath needs.SimpleStatement = forms.Starred ∷ []
beneath needs.AssignedValue = forms.Starred ∷ []
beneath needs.Reference = forms.Call ∷ forms.Int ∷ forms.Float ∷ forms.Imaginary ∷ forms.Strings ∷ forms.BytesStrings ∷ forms.NoneValue ∷ forms.TrueValue ∷ forms.FalseValue ∷ forms.Ellipsis ∷ forms.Round ∷ forms.Square ∷ forms.Curly ∷ []
beneath needs.Subject = forms.Starred ∷ []
beneath needs.CasePattern = forms.StarPattern ∷ []
beneath needs.PatternKey = names
beneath needs.PatternItem = forms.Name ∷ forms.TypeName ∷ forms.Underscore ∷ pattern_keys
beneath _ = []

abbrev pub form_number : Form → ℕ
form_number forms.Entries = 0
form_number forms.Named = 1
form_number forms.Lambda = 2
form_number forms.Conditional = 3
form_number forms.Or = 4
form_number forms.And = 5
form_number forms.Not = 6
form_number forms.Comparison = 7
form_number forms.BitOr = 8
form_number forms.BitXor = 9
form_number forms.BitAnd = 10
form_number forms.Shift = 11
form_number forms.Sum = 12
form_number forms.Product = 13
form_number forms.Unary = 14
form_number forms.Power = 15
form_number forms.Await = 16
form_number forms.Attribute = 17
form_number forms.Call = 18
form_number forms.Subscript = 19
form_number forms.Name = 20
form_number forms.TypeName = 21
form_number forms.Underscore = 22
form_number forms.Int = 23
form_number forms.Float = 24
form_number forms.Imaginary = 25
form_number forms.Strings = 26
form_number forms.BytesStrings = 27
form_number forms.NoneValue = 28
form_number forms.TrueValue = 29
form_number forms.FalseValue = 30
form_number forms.Ellipsis = 31
form_number forms.Round = 32
form_number forms.Square = 33
form_number forms.Curly = 34
form_number forms.Starred = 35
form_number forms.DoubleStarred = 36
form_number forms.StarArgument = 37
form_number forms.DoubleStarArgument = 38
form_number forms.Keyword = 39
form_number forms.Item = 40
form_number forms.ComprehensionFor = 41
form_number forms.AsyncComprehensionFor = 42
form_number forms.ComprehensionIf = 43
form_number forms.Targets = 44
form_number forms.IndexTuple = 45
form_number forms.Slice = 46
form_number forms.SliceFrom = 47
form_number forms.Link = 48
form_number forms.Parameter = 49
form_number forms.SlashParameter = 50
form_number forms.StarParameter = 51
form_number forms.DoubleStarParameter = 52
form_number forms.Yield = 53
form_number forms.Field = 54
form_number forms.Format = 55
form_number forms.Statements = 56
form_number forms.Assign = 57
form_number forms.AnnotatedAssign = 58
form_number forms.AugmentedAssign = 59
form_number forms.Pass = 60
form_number forms.Break = 61
form_number forms.Continue = 62
form_number forms.Return = 63
form_number forms.Raise = 64
form_number forms.Global = 65
form_number forms.Nonlocal = 66
form_number forms.Del = 67
form_number forms.Assert = 68
form_number forms.Import = 69
form_number forms.ImportFrom = 70
form_number forms.DottedName = 71
form_number forms.RelativeSource = 72
form_number forms.Alias = 73
form_number forms.FromAlias = 74
form_number forms.TypeAlias = 75
form_number forms.TypeParameters = 76
form_number forms.TypeParameter = 77
form_number forms.StarTypeParameter = 78
form_number forms.DoubleStarTypeParameter = 79
form_number forms.Parameters = 80
form_number forms.AnnotatedParameter = 81
form_number forms.DefStarParameter = 82
form_number forms.DefDoubleStarParameter = 83
form_number forms.Result = 84
form_number forms.Arguments = 85
form_number forms.Suite = 86
form_number forms.If = 87
form_number forms.Elif = 88
form_number forms.Else = 89
form_number forms.While = 90
form_number forms.For = 91
form_number forms.Try = 92
form_number forms.Except = 93
form_number forms.Finally = 94
form_number forms.With = 95
form_number forms.BracketedWith = 96
form_number forms.WithItem = 97
form_number forms.Def = 98
form_number forms.Class = 99
form_number forms.Match = 100
form_number forms.Case = 101
form_number forms.Async = 102
form_number forms.BracketedAsync = 103
form_number forms.Decorator = 104
form_number forms.SignedNumber = 105
form_number forms.ComplexNumber = 106
form_number forms.PatternAttribute = 107
form_number forms.PatternRound = 108
form_number forms.PatternSquare = 109
form_number forms.Patterns = 110
form_number forms.StarPattern = 111
form_number forms.DoubleStarPattern = 112
form_number forms.MappingPattern = 113
form_number forms.PatternItem = 114
form_number forms.ClassPattern = 115
form_number forms.KeywordPattern = 116
form_number forms.OrPattern = 117
form_number forms.AsPattern = 118

abbrev pub is_among : Form → List Form → Bool
is_among f fs = list_any (λ g. form_number g == form_number f) fs

-- A PLACE MARKED 0 TAKES LEVEL 0 AND FROM 2 ON, ANY OTHER ITS OWN LEVEL AND HIGHER ONES
abbrev pub takes_level : ℕ → Option ℕ → Bool
takes_level m None = false
takes_level m (Some l) = if m == 0 then (l == 0 || nat_le 2 l) else nat_le m l

abbrev pub is_marked : Option ℕ → Option ℕ → Bool
is_marked None l = false
is_marked (Some m) l = takes_level m l

-- whether a place takes a form
abbrev pub meets : Need → Form → Bool
meets n f = is_marked (mark n) (level f) || is_among f (besides n)

abbrev pub opening : Form → State → Opening
opening f s = record { form = f; after = s }

-- the forms that begin with a token
abbrev pub opens : Terminal → List Opening
opens terminals.Name = opening forms.Name states.Done ∷ []
opens terminals.MatchWord = opening forms.Name states.Done ∷ opening forms.Match states.MatchSubject ∷ []
opens terminals.CaseWord = opening forms.Name states.Done ∷ opening forms.Case states.CaseFirst ∷ []
opens terminals.TypeWord = opening forms.TypeName states.Done ∷ []
opens terminals.Underscore = opening forms.Underscore states.Done ∷ []
opens terminals.Int = opening forms.Int states.Done ∷ []
opens terminals.Float = opening forms.Float states.Done ∷ []
opens terminals.Imaginary = opening forms.Imaginary states.Done ∷ []
opens terminals.Str = opening forms.Strings states.StringsMore ∷ []
opens terminals.BytesStr = opening forms.BytesStrings states.BytesMore ∷ []
opens terminals.FStart = opening forms.Strings states.FBody ∷ []
opens terminals.FalseWord = opening forms.FalseValue states.Done ∷ []
opens terminals.NoneWord = opening forms.NoneValue states.Done ∷ []
opens terminals.TrueWord = opening forms.TrueValue states.Done ∷ []
opens terminals.Assert = opening forms.Assert states.AssertFirst ∷ []
opens terminals.Async = opening forms.AsyncComprehensionFor states.AsyncFor ∷ opening forms.Async states.AsyncFirst ∷ opening forms.BracketedAsync states.BracketedAsyncFirst ∷ []
opens terminals.Await = opening forms.Await states.LastPrimary ∷ []
opens terminals.Break = opening forms.Break states.Done ∷ []
opens terminals.Class = opening forms.Class states.ClassName ∷ []
opens terminals.Continue = opening forms.Continue states.Done ∷ []
opens terminals.Def = opening forms.Def states.DefName ∷ []
opens terminals.Del = opening forms.Del states.LastTargets ∷ []
opens terminals.Elif = opening forms.Elif states.HeaderTest ∷ []
opens terminals.Else = opening forms.Else states.LastSuite ∷ []
opens terminals.Except = opening forms.Except states.ExceptFirst ∷ []
opens terminals.Finally = opening forms.Finally states.LastSuite ∷ []
opens terminals.For = opening forms.ComprehensionFor states.ForTargets ∷ opening forms.For states.LoopTargets ∷ []
opens terminals.From = opening forms.ImportFrom states.FromSource ∷ []
opens terminals.Global = opening forms.Global states.NameNext ∷ []
opens terminals.If = opening forms.ComprehensionIf states.LastDisjunction ∷ opening forms.If states.HeaderTest ∷ []
opens terminals.Import = opening forms.Import states.ImportNext ∷ []
opens terminals.In = opening forms.Link states.Done ∷ []
opens terminals.Is = opening forms.Link states.LinkIs ∷ []
opens terminals.Lambda = opening forms.Lambda states.LambdaNext ∷ []
opens terminals.Nonlocal = opening forms.Nonlocal states.NameNext ∷ []
opens terminals.Not = opening forms.Not states.LastInversion ∷ opening forms.Link states.LinkNot ∷ []
opens terminals.Pass = opening forms.Pass states.Done ∷ []
opens terminals.Raise = opening forms.Raise states.RaiseFirst ∷ []
opens terminals.Return = opening forms.Return states.ReturnFirst ∷ []
opens terminals.Try = opening forms.Try states.LastSuite ∷ []
opens terminals.While = opening forms.While states.HeaderTest ∷ []
opens terminals.With = opening forms.With states.WithNext ∷ opening forms.BracketedWith states.BracketedWithFirst ∷ []
opens terminals.Yield = opening forms.Yield states.YieldFirst ∷ []
opens terminals.Plus = opening forms.Unary states.LastFactor ∷ []
opens terminals.Minus = opening forms.Unary states.LastFactor ∷ opening forms.SignedNumber states.LastNumber ∷ []
opens terminals.Tilde = opening forms.Unary states.LastFactor ∷ []
opens terminals.Star = opening forms.Starred states.LastStarOperand ∷ opening forms.StarArgument states.LastExpression ∷ opening forms.StarParameter states.StarParameterName ∷ opening forms.DefStarParameter states.DefStarName ∷ opening forms.StarTypeParameter states.LastIdentifier ∷ opening forms.StarPattern states.LastIdentifier ∷ []
opens terminals.DoubleStar = opening forms.DoubleStarred states.LastBitOr ∷ opening forms.DoubleStarArgument states.LastExpression ∷ opening forms.DoubleStarParameter states.LastIdentifier ∷ opening forms.DefDoubleStarParameter states.DefDoubleStarName ∷ opening forms.DoubleStarTypeParameter states.LastIdentifier ∷ opening forms.DoubleStarPattern states.LastCapturedName ∷ []
opens terminals.Slash = opening forms.SlashParameter states.Done ∷ []
opens terminals.At = opening forms.Decorator states.LastNamed ∷ []
opens terminals.Compare = opening forms.Link states.Done ∷ []
opens terminals.OpenRound = opening forms.Round states.RoundFirst ∷ opening forms.Parameters states.ParametersNext ∷ opening forms.Arguments states.CallFirst ∷ opening forms.PatternRound states.PatternRoundFirst ∷ []
opens terminals.OpenSquare = opening forms.Square states.SquareFirst ∷ opening forms.TypeParameters states.TypeParametersFirst ∷ opening forms.PatternSquare states.PatternSquareNext ∷ []
opens terminals.OpenCurly = opening forms.Curly states.CurlyFirst ∷ opening forms.Field states.FieldFirst ∷ opening forms.MappingPattern states.MappingNext ∷ []
opens terminals.Colon = opening forms.Slice states.SliceFirst ∷ opening forms.Format states.FormatNext ∷ opening forms.Suite states.SuiteFirst ∷ []
opens terminals.Dot = opening forms.RelativeSource states.DotsMore ∷ []
opens terminals.Ellipsis = opening forms.Ellipsis states.Done ∷ opening forms.RelativeSource states.DotsMore ∷ []
opens terminals.Arrow = opening forms.Result states.LastExpression ∷ []
opens _ = []

abbrev pub joint : Need → Form → State → Joint
joint n f s = record { left = n; form = f; after = s }

-- the forms that begin with a part and then a token
abbrev pub joins : Terminal → List Joint
joins terminals.Name = joint needs.TypeKeyword forms.TypeAlias states.AliasParameters ∷ []
joins terminals.MatchWord = joint needs.TypeKeyword forms.TypeAlias states.AliasParameters ∷ []
joins terminals.CaseWord = joint needs.TypeKeyword forms.TypeAlias states.AliasParameters ∷ []
joins terminals.TypeWord = joint needs.TypeKeyword forms.TypeAlias states.AliasParameters ∷ []
joins terminals.Underscore = joint needs.TypeKeyword forms.TypeAlias states.AliasParameters ∷ []
joins terminals.And = joint needs.Conjunction forms.And states.LastInversion ∷ []
joins terminals.As = joint needs.DottedName forms.Alias states.LastIdentifier ∷ joint needs.Identifier forms.FromAlias states.LastIdentifier ∷ joint needs.Expression forms.WithItem states.LastTarget ∷ joint needs.Alternatives forms.AsPattern states.LastCapturedName ∷ []
joins terminals.If = joint needs.Disjunction forms.Conditional states.ConditionalTest ∷ []
joins terminals.In = joint needs.BitOr forms.Comparison states.Compared ∷ []
joins terminals.Is = joint needs.BitOr forms.Comparison states.ComparedIs ∷ []
joins terminals.Not = joint needs.BitOr forms.Comparison states.ComparedNot ∷ []
joins terminals.Or = joint needs.Disjunction forms.Or states.LastConjunction ∷ []
joins terminals.Plus = joint needs.Sum forms.Sum states.LastTerm ∷ joint needs.RealNumber forms.ComplexNumber states.LastImaginary ∷ []
joins terminals.Minus = joint needs.Sum forms.Sum states.LastTerm ∷ joint needs.RealNumber forms.ComplexNumber states.LastImaginary ∷ []
joins terminals.Star = joint needs.Term forms.Product states.LastFactor ∷ []
joins terminals.DoubleStar = joint needs.Await forms.Power states.LastFactor ∷ []
joins terminals.Slash = joint needs.Term forms.Product states.LastFactor ∷ []
joins terminals.Times = joint needs.Term forms.Product states.LastFactor ∷ []
joins terminals.At = joint needs.Term forms.Product states.LastFactor ∷ []
joins terminals.Shift = joint needs.Shift forms.Shift states.LastSum ∷ []
joins terminals.Ampersand = joint needs.BitAnd forms.BitAnd states.LastShift ∷ []
joins terminals.Bar = joint needs.BitOr forms.BitOr states.LastBitXor ∷ joint needs.ClosedPattern forms.OrPattern states.OrNext ∷ []
joins terminals.Caret = joint needs.BitXor forms.BitXor states.LastBitAnd ∷ []
joins terminals.Walrus = joint needs.Identifier forms.Named states.LastExpression ∷ []
joins terminals.Compare = joint needs.BitOr forms.Comparison states.Compared ∷ []
joins terminals.OpenRound = joint needs.Primary forms.Call states.CallFirst ∷ joint needs.PatternName forms.ClassPattern states.ClassPatternNext ∷ []
joins terminals.OpenSquare = joint needs.Primary forms.Subscript states.IndexFirst ∷ []
joins terminals.Comma = joint needs.Entry forms.Entries states.EntryNext ∷ joint needs.Target forms.Targets states.TargetNext ∷ joint needs.IndexEntry forms.IndexTuple states.IndexNext ∷ joint needs.PatternEntry forms.Patterns states.PatternsNext ∷ []
joins terminals.Colon = joint needs.Expression forms.Item states.LastExpression ∷ joint needs.Expression forms.SliceFrom states.SliceFirst ∷ joint needs.Reference forms.AnnotatedAssign states.AnnotationFirst ∷ joint needs.Identifier forms.TypeParameter states.LastExpression ∷ joint needs.Identifier forms.AnnotatedParameter states.ParameterAnnotation ∷ joint needs.PatternKey forms.PatternItem states.LastPattern ∷ []
joins terminals.Semicolon = joint needs.SimpleStatement forms.Statements states.StatementNext ∷ []
joins terminals.Dot = joint needs.Primary forms.Attribute states.LastName ∷ joint needs.Identifier forms.DottedName states.DottedNext ∷ joint needs.PatternName forms.PatternAttribute states.LastName ∷ []
joins terminals.Assign = joint needs.Identifier forms.Keyword states.LastExpression ∷ joint needs.Identifier forms.Parameter states.LastExpression ∷ joint needs.AssignedPart forms.Assign states.AssignNext ∷ joint needs.Identifier forms.KeywordPattern states.LastPattern ∷ []
joins terminals.AugmentedAssign = joint needs.Reference forms.AugmentedAssign states.LastAssigned ∷ []
joins _ = []

abbrev pub number : Terminal → ℕ
number terminals.Name = 0
number terminals.MatchWord = 1
number terminals.CaseWord = 2
number terminals.TypeWord = 3
number terminals.Underscore = 4
number terminals.Int = 5
number terminals.Float = 6
number terminals.Imaginary = 7
number terminals.Str = 8
number terminals.BytesStr = 9
number terminals.FStart = 10
number terminals.FText = 11
number terminals.FConversion = 12
number terminals.FEnd = 13
number terminals.FalseWord = 14
number terminals.NoneWord = 15
number terminals.TrueWord = 16
number terminals.And = 17
number terminals.As = 18
number terminals.Assert = 19
number terminals.Async = 20
number terminals.Await = 21
number terminals.Break = 22
number terminals.Class = 23
number terminals.Continue = 24
number terminals.Def = 25
number terminals.Del = 26
number terminals.Elif = 27
number terminals.Else = 28
number terminals.Except = 29
number terminals.Finally = 30
number terminals.For = 31
number terminals.From = 32
number terminals.Global = 33
number terminals.If = 34
number terminals.Import = 35
number terminals.In = 36
number terminals.Is = 37
number terminals.Lambda = 38
number terminals.Nonlocal = 39
number terminals.Not = 40
number terminals.Or = 41
number terminals.Pass = 42
number terminals.Raise = 43
number terminals.Return = 44
number terminals.Try = 45
number terminals.While = 46
number terminals.With = 47
number terminals.Yield = 48
number terminals.Plus = 49
number terminals.Minus = 50
number terminals.Tilde = 51
number terminals.Star = 52
number terminals.DoubleStar = 53
number terminals.Slash = 54
number terminals.Times = 55
number terminals.At = 56
number terminals.Shift = 57
number terminals.Ampersand = 58
number terminals.Bar = 59
number terminals.Caret = 60
number terminals.Walrus = 61
number terminals.Compare = 62
number terminals.OpenRound = 63
number terminals.CloseRound = 64
number terminals.OpenSquare = 65
number terminals.CloseSquare = 66
number terminals.OpenCurly = 67
number terminals.CloseCurly = 68
number terminals.Comma = 69
number terminals.Colon = 70
number terminals.Semicolon = 71
number terminals.Dot = 72
number terminals.Ellipsis = 73
number terminals.Arrow = 74
number terminals.Assign = 75
number terminals.AugmentedAssign = 76
number terminals.Other = 77
number terminals.End = 78

-- a soft keyword is a name where a form has a name
abbrev pub plain : Terminal → Terminal
plain terminals.MatchWord = terminals.Name
plain terminals.CaseWord = terminals.Name
plain terminals.TypeWord = terminals.Name
plain terminals.Underscore = terminals.Name
plain k = k

abbrev pub to : Terminal → State → Edge
to k s = record { word = k; after = s }

-- the tokens that a form has at a state, and the state behind each
abbrev pub edges : State → List Edge
edges states.LastName = to terminals.Name states.Done ∷ []
edges states.EntryMore = to terminals.Comma states.EntryNext ∷ []
edges states.TargetMore = to terminals.Comma states.TargetNext ∷ []
edges states.ConditionalElse = to terminals.Else states.LastExpression ∷ []
edges states.ComparedNot = to terminals.In states.Compared ∷ []
edges states.ComparedIs = to terminals.Not states.Compared ∷ []
edges states.LinkNot = to terminals.In states.Done ∷ []
edges states.LinkIs = to terminals.Not states.Done ∷ []
edges states.CallFirst = to terminals.CloseRound states.Done ∷ []
edges states.CallAfterFirst = to terminals.Comma states.CallNext ∷ to terminals.CloseRound states.Done ∷ []
edges states.CallNext = to terminals.CloseRound states.Done ∷ []
edges states.CallMore = to terminals.Comma states.CallNext ∷ to terminals.CloseRound states.Done ∷ []
edges states.RoundClauses = to terminals.CloseRound states.Done ∷ []
edges states.IndexClose = to terminals.CloseSquare states.Done ∷ []
edges states.IndexMore = to terminals.Comma states.IndexNext ∷ []
edges states.LambdaNext = to terminals.Colon states.LastExpression ∷ []
edges states.LambdaMore = to terminals.Comma states.LambdaNext ∷ to terminals.Colon states.LastExpression ∷ []
edges states.StarParameterName = to terminals.Name states.Done ∷ []
edges states.RoundFirst = to terminals.CloseRound states.Done ∷ []
edges states.RoundClose = to terminals.CloseRound states.Done ∷ []
edges states.RoundAfterFirst = to terminals.Comma states.RoundNext ∷ to terminals.CloseRound states.Done ∷ []
edges states.RoundNext = to terminals.CloseRound states.Done ∷ []
edges states.RoundMore = to terminals.Comma states.RoundNext ∷ to terminals.CloseRound states.Done ∷ []
edges states.SquareFirst = to terminals.CloseSquare states.Done ∷ []
edges states.SquareAfterFirst = to terminals.Comma states.SquareNext ∷ to terminals.CloseSquare states.Done ∷ []
edges states.SquareClauses = to terminals.CloseSquare states.Done ∷ []
edges states.SquareNext = to terminals.CloseSquare states.Done ∷ []
edges states.SquareMore = to terminals.Comma states.SquareNext ∷ to terminals.CloseSquare states.Done ∷ []
edges states.CurlyFirst = to terminals.CloseCurly states.Done ∷ []
edges states.CurlyAfterFirst = to terminals.Comma states.CurlyNext ∷ to terminals.CloseCurly states.Done ∷ []
edges states.CurlyClauses = to terminals.CloseCurly states.Done ∷ []
edges states.CurlyNext = to terminals.CloseCurly states.Done ∷ []
edges states.CurlyMore = to terminals.Comma states.CurlyNext ∷ to terminals.CloseCurly states.Done ∷ []
edges states.AsyncFor = to terminals.For states.ForTargets ∷ []
edges states.ForIn = to terminals.In states.LastDisjunction ∷ []
edges states.SliceFirst = to terminals.Colon states.SliceStep ∷ []
edges states.SliceSecond = to terminals.Colon states.SliceStep ∷ []
edges states.YieldFirst = to terminals.From states.LastExpression ∷ []
edges states.FieldTail = to terminals.Assign states.FieldAssign ∷ to terminals.FConversion states.FieldConverted ∷ to terminals.CloseCurly states.Done ∷ []
edges states.FieldAssign = to terminals.FConversion states.FieldConverted ∷ to terminals.CloseCurly states.Done ∷ []
edges states.FieldConverted = to terminals.CloseCurly states.Done ∷ []
edges states.FieldClose = to terminals.CloseCurly states.Done ∷ []
edges states.FormatNext = to terminals.FText states.FormatNext ∷ []
edges states.FBody = to terminals.FText states.FBody ∷ to terminals.FEnd states.StringsMore ∷ []
edges states.StringsMore = to terminals.Str states.StringsMore ∷ to terminals.FStart states.FBody ∷ []
edges states.BytesMore = to terminals.BytesStr states.BytesMore ∷ []
edges states.StatementMore = to terminals.Semicolon states.StatementNext ∷ []
edges states.AssignMore = to terminals.Assign states.AssignNext ∷ []
edges states.AnnotationMore = to terminals.Assign states.LastAssigned ∷ []
edges states.RaiseMore = to terminals.From states.LastExpression ∷ []
edges states.NameMore = to terminals.Comma states.NameNext ∷ []
edges states.AssertMore = to terminals.Comma states.LastExpression ∷ []
edges states.ImportMore = to terminals.Comma states.ImportNext ∷ []
edges states.FromImport = to terminals.Import states.FromFirst ∷ []
edges states.FromFirst = to terminals.Star states.Done ∷ to terminals.OpenRound states.FromBracketed ∷ []
edges states.FromMore = to terminals.Comma states.FromNext ∷ []
edges states.FromBracketedMore = to terminals.Comma states.FromBracketedNext ∷ to terminals.CloseRound states.Done ∷ []
edges states.FromBracketedNext = to terminals.CloseRound states.Done ∷ []
edges states.DotsMore = to terminals.Dot states.DotsMore ∷ to terminals.Ellipsis states.DotsMore ∷ []
edges states.DottedNext = to terminals.Name states.DottedMore ∷ []
edges states.DottedMore = to terminals.Dot states.DottedNext ∷ []
edges states.AliasParameters = to terminals.Assign states.LastExpression ∷ []
edges states.AliasAssign = to terminals.Assign states.LastExpression ∷ []
edges states.TypeParametersNext = to terminals.CloseSquare states.Done ∷ []
edges states.TypeParametersMore = to terminals.Comma states.TypeParametersNext ∷ to terminals.CloseSquare states.Done ∷ []
edges states.SuiteMore = to terminals.Semicolon states.SuiteNext ∷ []
edges states.LoopIn = to terminals.In states.LoopOver ∷ []
edges states.ExceptFirst = to terminals.Star states.ExceptClass ∷ []
edges states.ExceptMore = to terminals.As states.ExceptName ∷ []
edges states.WithMore = to terminals.Comma states.WithNext ∷ []
edges states.BracketedWithFirst = to terminals.OpenRound states.BracketedItem ∷ []
edges states.BracketedItemNext = to terminals.CloseRound states.LastSuite ∷ []
edges states.BracketedItemMore = to terminals.Comma states.BracketedItemNext ∷ to terminals.CloseRound states.LastSuite ∷ []
edges states.ParametersNext = to terminals.CloseRound states.Done ∷ []
edges states.ParametersMore = to terminals.Comma states.ParametersNext ∷ to terminals.CloseRound states.Done ∷ []
edges states.ParameterDefault = to terminals.Assign states.LastExpression ∷ []
edges states.DefStarName = to terminals.Name states.StarAnnotation ∷ []
edges states.DefDoubleStarName = to terminals.Name states.StarAnnotation ∷ []
edges states.StarAnnotation = to terminals.Colon states.LastExpression ∷ []
edges states.MatchColon = to terminals.Colon states.Done ∷ []
edges states.CaseGuard = to terminals.If states.HeaderTest ∷ []
edges states.PatternRoundFirst = to terminals.CloseRound states.Done ∷ []
edges states.PatternRoundStar = to terminals.Comma states.PatternRoundNext ∷ []
edges states.PatternRoundNext = to terminals.CloseRound states.Done ∷ []
edges states.PatternRoundMore = to terminals.Comma states.PatternRoundNext ∷ to terminals.CloseRound states.Done ∷ []
edges states.PatternSquareNext = to terminals.CloseSquare states.Done ∷ []
edges states.PatternSquareMore = to terminals.Comma states.PatternSquareNext ∷ to terminals.CloseSquare states.Done ∷ []
edges states.PatternsMore = to terminals.Comma states.PatternsNext ∷ []
edges states.MappingNext = to terminals.CloseCurly states.Done ∷ []
edges states.MappingMore = to terminals.Comma states.MappingNext ∷ to terminals.CloseCurly states.Done ∷ []
edges states.MappingRest = to terminals.Comma states.MappingClose ∷ to terminals.CloseCurly states.Done ∷ []
edges states.MappingClose = to terminals.CloseCurly states.Done ∷ []
edges states.ClassPatternNext = to terminals.CloseRound states.Done ∷ []
edges states.ClassPatternMore = to terminals.Comma states.ClassPatternNext ∷ to terminals.CloseRound states.Done ∷ []
edges states.OrMore = to terminals.Bar states.OrNext ∷ []
edges _ = []

abbrev pub behind : Option Edge → Option State
behind None = None
behind (Some e) = Some e.after

abbrev pub edge_at : State → Terminal → Option State
edge_at s k = behind (find (λ e. number e.word == number k) (edges s))

-- the state behind a token at a state
abbrev pub edge : State → Terminal → Option State
edge s k = edge_at s (plain k)

abbrev pub holds : Need → State → Place
holds n s = record { need = n; after = s }

-- the parts that may stand at a state of an expression, and the state behind each
abbrev pub expression_places : State → List Place
expression_places states.LastExpression = holds needs.Expression states.Done ∷ []
expression_places states.LastDisjunction = holds needs.Disjunction states.Done ∷ []
expression_places states.LastConjunction = holds needs.Conjunction states.Done ∷ []
expression_places states.LastInversion = holds needs.Inversion states.Done ∷ []
expression_places states.LastBitOr = holds needs.BitOr states.Done ∷ []
expression_places states.LastBitXor = holds needs.BitXor states.Done ∷ []
expression_places states.LastBitAnd = holds needs.BitAnd states.Done ∷ []
expression_places states.LastShift = holds needs.Shift states.Done ∷ []
expression_places states.LastSum = holds needs.Sum states.Done ∷ []
expression_places states.LastTerm = holds needs.Term states.Done ∷ []
expression_places states.LastFactor = holds needs.Factor states.Done ∷ []
expression_places states.LastPrimary = holds needs.Primary states.Done ∷ []
expression_places states.LastStarOperand = holds needs.StarOperand states.Done ∷ []
expression_places states.LastIdentifier = holds needs.Identifier states.Done ∷ []
expression_places states.EntryNext = holds needs.Entry states.EntryMore ∷ []
expression_places states.TargetNext = holds needs.Target states.TargetMore ∷ []
expression_places states.ConditionalTest = holds needs.Disjunction states.ConditionalElse ∷ []
expression_places states.Compared = holds needs.BitOr states.ComparedMore ∷ []
expression_places states.ComparedIs = holds needs.BitOr states.ComparedMore ∷ []
expression_places states.ComparedMore = holds needs.Link states.LinkOperand ∷ []
expression_places states.LinkOperand = holds needs.BitOr states.ComparedMore ∷ []
expression_places states.CallFirst = holds needs.UnpackedArgument states.CallMore ∷ holds needs.Argument states.CallAfterFirst ∷ []
expression_places states.CallAfterFirst = holds needs.Clause states.RoundClauses ∷ []
expression_places states.CallNext = holds needs.AnyArgument states.CallMore ∷ []
expression_places states.RoundClauses = holds needs.FurtherClause states.RoundClauses ∷ []
expression_places states.IndexFirst = holds needs.Index states.IndexClose ∷ []
expression_places states.IndexNext = holds needs.IndexEntry states.IndexMore ∷ []
expression_places states.LambdaNext = holds needs.Parameter states.LambdaMore ∷ []
expression_places states.RoundFirst = holds needs.YieldValue states.RoundClose ∷ holds needs.StarredEntry states.RoundMore ∷ holds needs.Named states.RoundAfterFirst ∷ []
expression_places states.RoundAfterFirst = holds needs.Clause states.RoundClauses ∷ []
expression_places states.RoundNext = holds needs.Element states.RoundMore ∷ []
expression_places states.SquareFirst = holds needs.StarredEntry states.SquareMore ∷ holds needs.Named states.SquareAfterFirst ∷ []
expression_places states.SquareAfterFirst = holds needs.Clause states.SquareClauses ∷ []
expression_places states.SquareClauses = holds needs.FurtherClause states.SquareClauses ∷ []
expression_places states.SquareNext = holds needs.Element states.SquareMore ∷ []
expression_places states.CurlyFirst = holds needs.StarredEntry states.CurlyMore ∷ holds needs.DoubleStarredEntry states.CurlyMore ∷ holds needs.CurlyEntry states.CurlyAfterFirst ∷ []
expression_places states.CurlyAfterFirst = holds needs.Clause states.CurlyClauses ∷ []
expression_places states.CurlyClauses = holds needs.FurtherClause states.CurlyClauses ∷ []
expression_places states.CurlyNext = holds needs.CurlyElement states.CurlyMore ∷ []
expression_places states.ForTargets = holds needs.TargetList states.ForIn ∷ []
expression_places states.SliceFirst = holds needs.Expression states.SliceSecond ∷ []
expression_places states.SliceStep = holds needs.Expression states.Done ∷ []
expression_places states.YieldFirst = holds needs.Expressions states.Done ∷ []
expression_places states.FieldFirst = holds needs.YieldValue states.FieldTail ∷ holds needs.Expressions states.FieldTail ∷ []
expression_places states.FieldTail = holds needs.Format states.FieldClose ∷ []
expression_places states.FieldAssign = holds needs.Format states.FieldClose ∷ []
expression_places states.FieldConverted = holds needs.Format states.FieldClose ∷ []
expression_places states.FormatNext = holds needs.Field states.FormatNext ∷ []
expression_places states.FBody = holds needs.Field states.FBody ∷ []
expression_places _ = []

-- the same at a state of a statement, a header or a pattern
abbrev pub line_places : State → List Place
line_places states.StatementNext = holds needs.SimpleStatement states.StatementMore ∷ []
line_places states.AssignNext = holds needs.AssignedPart states.AssignMore ∷ []
line_places states.AnnotationFirst = holds needs.Expression states.AnnotationMore ∷ []
line_places states.LastAssigned = holds needs.AssignedValue states.Done ∷ []
line_places states.ReturnFirst = holds needs.Expressions states.Done ∷ []
line_places states.RaiseFirst = holds needs.Expression states.RaiseMore ∷ []
line_places states.NameNext = holds needs.Identifier states.NameMore ∷ []
line_places states.LastTargets = holds needs.TargetList states.Done ∷ []
line_places states.AssertFirst = holds needs.Expression states.AssertMore ∷ []
line_places states.ImportNext = holds needs.ImportItem states.ImportMore ∷ []
line_places states.FromSource = holds needs.Source states.FromImport ∷ []
line_places states.FromFirst = holds needs.FromItem states.FromMore ∷ []
line_places states.FromNext = holds needs.FromItem states.FromMore ∷ []
line_places states.FromBracketed = holds needs.FromItem states.FromBracketedMore ∷ []
line_places states.FromBracketedNext = holds needs.FromItem states.FromBracketedMore ∷ []
line_places states.DotsMore = holds needs.DottedName states.Done ∷ []
line_places states.AliasParameters = holds needs.TypeParameters states.AliasAssign ∷ []
line_places states.TypeParametersFirst = holds needs.TypeParameter states.TypeParametersMore ∷ []
line_places states.TypeParametersNext = holds needs.TypeParameter states.TypeParametersMore ∷ []
line_places states.SuiteFirst = holds needs.SimpleStatement states.SuiteMore ∷ []
line_places states.SuiteNext = holds needs.SimpleStatement states.SuiteMore ∷ []
line_places states.LastSuite = holds needs.Suite states.Done ∷ []
line_places states.HeaderTest = holds needs.Named states.LastSuite ∷ []
line_places states.LoopTargets = holds needs.TargetList states.LoopIn ∷ []
line_places states.LoopOver = holds needs.Expressions states.LastSuite ∷ []
line_places states.ExceptFirst = holds needs.Expression states.ExceptMore ∷ holds needs.Suite states.Done ∷ []
line_places states.ExceptClass = holds needs.Expression states.ExceptMore ∷ []
line_places states.ExceptMore = holds needs.Suite states.Done ∷ []
line_places states.ExceptName = holds needs.Identifier states.LastSuite ∷ []
line_places states.WithNext = holds needs.WithEntry states.WithMore ∷ []
line_places states.WithMore = holds needs.Suite states.Done ∷ []
line_places states.BracketedItem = holds needs.WithEntry states.BracketedItemMore ∷ []
line_places states.BracketedItemNext = holds needs.WithEntry states.BracketedItemMore ∷ []
line_places states.LastTarget = holds needs.Target states.Done ∷ []
line_places states.DefName = holds needs.Identifier states.DefParameters ∷ []
line_places states.DefParameters = holds needs.TypeParameters states.DefBracket ∷ holds needs.Parameters states.DefResult ∷ []
line_places states.DefBracket = holds needs.Parameters states.DefResult ∷ []
line_places states.DefResult = holds needs.Result states.LastSuite ∷ holds needs.Suite states.Done ∷ []
line_places states.ParametersNext = holds needs.DefParameter states.ParametersMore ∷ []
line_places states.ParameterAnnotation = holds needs.Expression states.ParameterDefault ∷ []
line_places states.ClassName = holds needs.Identifier states.ClassParameters ∷ []
line_places states.ClassParameters = holds needs.TypeParameters states.ClassBracket ∷ holds needs.Arguments states.LastSuite ∷ holds needs.Suite states.Done ∷ []
line_places states.ClassBracket = holds needs.Arguments states.LastSuite ∷ holds needs.Suite states.Done ∷ []
line_places states.AsyncFirst = holds needs.AsyncHeader states.Done ∷ []
line_places states.BracketedAsyncFirst = holds needs.BracketedWith states.Done ∷ []
line_places states.LastNamed = holds needs.Named states.Done ∷ []
line_places states.MatchSubject = holds needs.Subject states.MatchColon ∷ []
line_places states.CaseFirst = holds needs.CasePattern states.CaseGuard ∷ []
line_places states.CaseGuard = holds needs.Suite states.Done ∷ []
line_places states.LastNumber = holds needs.Number states.Done ∷ []
line_places states.LastImaginary = holds needs.ImaginaryNumber states.Done ∷ []
line_places states.LastPattern = holds needs.Pattern states.Done ∷ []
line_places states.LastCapturedName = holds needs.CapturedName states.Done ∷ []
line_places states.PatternRoundFirst = holds needs.StarPattern states.PatternRoundStar ∷ holds needs.Pattern states.PatternRoundMore ∷ []
line_places states.PatternRoundNext = holds needs.PatternEntry states.PatternRoundMore ∷ []
line_places states.PatternSquareNext = holds needs.PatternEntry states.PatternSquareMore ∷ []
line_places states.PatternsNext = holds needs.PatternEntry states.PatternsMore ∷ []
line_places states.MappingNext = holds needs.DoubleStarPattern states.MappingRest ∷ holds needs.PatternItem states.MappingMore ∷ []
line_places states.ClassPatternNext = holds needs.ClassEntry states.ClassPatternMore ∷ []
line_places states.OrNext = holds needs.ClosedPattern states.OrMore ∷ []
line_places _ = []

abbrev pub or_else : List Place → List Place → List Place
or_else [] others = others
or_else (p ∷ ps) others = p ∷ ps

-- the parts that may stand at a state, and the state behind each
abbrev pub places : State → List Place
places s = or_else (expression_places s) (line_places s)

-- whether an expression may end at a state
abbrev pub may_end_expression : State → Bool
may_end_expression states.Done = true
may_end_expression states.EntryNext = true
may_end_expression states.EntryMore = true
may_end_expression states.TargetNext = true
may_end_expression states.TargetMore = true
may_end_expression states.ComparedMore = true
may_end_expression states.LinkIs = true
may_end_expression states.IndexNext = true
may_end_expression states.IndexMore = true
may_end_expression states.StarParameterName = true
may_end_expression states.SliceFirst = true
may_end_expression states.SliceSecond = true
may_end_expression states.SliceStep = true
may_end_expression states.YieldFirst = true
may_end_expression states.FormatNext = true
may_end_expression states.StringsMore = true
may_end_expression states.BytesMore = true
may_end_expression _ = false

-- whether a simple statement may end at a state
abbrev pub may_end_statement : State → Bool
may_end_statement states.StatementNext = true
may_end_statement states.StatementMore = true
may_end_statement states.AssignMore = true
may_end_statement states.AnnotationMore = true
may_end_statement states.ReturnFirst = true
may_end_statement states.RaiseFirst = true
may_end_statement states.RaiseMore = true
may_end_statement states.NameMore = true
may_end_statement states.AssertMore = true
may_end_statement states.ImportMore = true
may_end_statement states.FromMore = true
may_end_statement states.DotsMore = true
may_end_statement states.DottedMore = true
may_end_statement _ = false

-- whether a part of a header, or a pattern, may end at a state
abbrev pub may_end_header : State → Bool
may_end_header states.SuiteFirst = true
may_end_header states.SuiteNext = true
may_end_header states.SuiteMore = true
may_end_header states.ParameterDefault = true
may_end_header states.DefStarName = true
may_end_header states.StarAnnotation = true
may_end_header states.PatternsNext = true
may_end_header states.PatternsMore = true
may_end_header states.OrMore = true
may_end_header _ = false

-- whether a form may end at a state
abbrev pub is_last : State → Bool
is_last s = may_end_expression s || may_end_statement s || may_end_header s
