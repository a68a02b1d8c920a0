-- The functions of a sample, one behind another.
use Rattle.std.proofs.Common.{◌≡◌, ◌∙◌, ℕ, suc, ◌+◌, ◌-◌, ◌<◌, List, [], ◌∷◌, ◌++◌, refl, ap, sym, append_assoc, arith}
use Rattle.std.specs.Prelude.{flat_map, codes, length}
use Rattle.std.specs.Fmt.{decimal}
use Rattle.std.specs.List.{count_by}
use Rattle.edge_io.specs.Line.{is_lf}
use Rattle.py_base.specs.declared.diag.Diag.{Diag}
use Rattle.text_commands.specs.Sample.{line, function_text, count_line, summary, text_line, last_of}
use Rattle.std.specs.List.{range_with_len}

range_first : (n i : ℕ) → i < n → range_with_len i (n - i) ≡ i ∷ range_with_len (i + 1) (n - (i + 1))
range_first n i within = let e : n - i ≡ suc (n - (i + 1)) = omega arith in rw e refl

pub more_functions : (f : ℕ → List ℕ) (n i : ℕ) (done whole : List ℕ) → i < n → done ++ flat_map f (range_with_len i (n - i)) ≡ whole → (done ++ f i) ++ flat_map f (range_with_len (i + 1) (n - (i + 1))) ≡ whole
more_functions f n i done whole within so_far = append_assoc done (f i) (flat_map f (range_with_len (i + 1) (n - (i + 1)))) ∙ ap (λ (is : List ℕ). done ++ flat_map f is) (sym (range_first n i within)) ∙ so_far

-- ---- texts, one piece behind another

-- a piece goes behind those that went behind the beginning
onto : (t0 t t' whole piece : List ℕ) → t ≡ t0 ++ whole → t' ≡ t ++ piece → t' ≡ t0 ++ (whole ++ piece)
onto t0 t t' whole piece first next = next ∙ ap (λ (xs : List ℕ). xs ++ piece) first ∙ append_assoc t0 whole piece

-- a line with a number, in pieces
number_line : (t before number behind : List ℕ) → ((t ++ before) ++ number) ++ line behind ≡ t ++ line ((before ++ number) ++ behind)
number_line t before number behind =
    ap (λ (xs : List ℕ). xs ++ line behind) (append_assoc t before number)
    ∙ append_assoc t (before ++ number) (line behind)
    ∙ ap (λ (xs : List ℕ). t ++ xs) (sym (append_assoc (before ++ number) behind (10 ∷ [])))

-- a line with a number at its end, in pieces
count_behind : (t name number : List ℕ) → ((t ++ name) ++ number) ++ 10 ∷ [] ≡ t ++ line (name ++ number)
count_behind t name number = ap (λ (xs : List ℕ). xs ++ 10 ∷ []) (append_assoc t name number) ∙ append_assoc t (name ++ number) (10 ∷ [])

pub function_pushed : (t0 t1 t2 t3 t4 t5 t6 : List ℕ) (i j : ℕ)
    → t1 ≡ ((t0 ++ codes "def f") ++ decimal i) ++ codes "(a: int | None):\n"
    → t2 ≡ t1 ++ codes "    x = None\n"
    → t3 ≡ t2 ++ codes "    while a is not None:\n"
    → t4 ≡ ((t3 ++ codes "        x = a if x is None else f") ++ decimal j) ++ codes "(x)\n"
    → t5 ≡ ((t4 ++ codes "        a = None if x == ") ++ decimal i) ++ codes " else a\n"
    → t6 ≡ t5 ++ codes "    return x\n"
    → t6 ≡ t0 ++ function_text i j
function_pushed t0 t1 t2 t3 t4 t5 t6 i j e1 e2 e3 e4 e5 e6 =
    let l1 : List ℕ = line ((codes "def f" ++ decimal i) ++ codes "(a: int | None):") in
    let l2 : List ℕ = line (codes "    x = None") in
    let l3 : List ℕ = line (codes "    while a is not None:") in
    let l4 : List ℕ = line ((codes "        x = a if x is None else f" ++ decimal j) ++ codes "(x)") in
    let l5 : List ℕ = line ((codes "        a = None if x == " ++ decimal i) ++ codes " else a") in
    let l6 : List ℕ = line (codes "    return x") in
    let f1 : t1 ≡ t0 ++ l1 = e1 ∙ number_line t0 (codes "def f") (decimal i) (codes "(a: int | None):") in
    let f2 : t2 ≡ t0 ++ (l1 ++ l2) = onto t0 t1 t2 l1 l2 f1 e2 in
    let f3 : t3 ≡ t0 ++ ((l1 ++ l2) ++ l3) = onto t0 t2 t3 (l1 ++ l2) l3 f2 e3 in
    let f4 : t4 ≡ t0 ++ (((l1 ++ l2) ++ l3) ++ l4) = onto t0 t3 t4 ((l1 ++ l2) ++ l3) l4 f3 (e4 ∙ number_line t3 (codes "        x = a if x is None else f") (decimal j) (codes "(x)")) in
    let f5 : t5 ≡ t0 ++ ((((l1 ++ l2) ++ l3) ++ l4) ++ l5) = onto t0 t4 t5 (((l1 ++ l2) ++ l3) ++ l4) l5 f4 (e5 ∙ number_line t4 (codes "        a = None if x == ") (decimal i) (codes " else a")) in
    onto t0 t5 t6 ((((l1 ++ l2) ++ l3) ++ l4) ++ l5) l6 f5 e6

pub summary_pushed : (t0 t1 t2 t3 t4 t5 text : List ℕ) (n : ℕ) (list : List Diag)
    → t0 ≡ []
    → t1 ≡ ((t0 ++ codes "functions ") ++ decimal n) ++ codes "\n"
    → t2 ≡ ((t1 ++ codes "bytes ") ++ decimal (length text)) ++ codes "\n"
    → t3 ≡ ((t2 ++ codes "lines ") ++ decimal (count_by is_lf text)) ++ codes "\n"
    → t4 ≡ ((t3 ++ codes "diagnostics ") ++ decimal (length list)) ++ codes "\n"
    → t5 ≡ t4 ++ text_line (last_of list)
    → t5 ≡ summary n text list
summary_pushed t0 t1 t2 t3 t4 t5 text n list e0 e1 e2 e3 e4 e5 =
    let c1 : List ℕ = count_line (codes "functions") n in
    let c2 : List ℕ = count_line (codes "bytes") (length text) in
    let c3 : List ℕ = count_line (codes "lines") (count_by is_lf text) in
    let c4 : List ℕ = count_line (codes "diagnostics") (length list) in
    let f1 : t1 ≡ t0 ++ c1 = e1 ∙ count_behind t0 (codes "functions ") (decimal n) in
    let f2 : t2 ≡ t0 ++ (c1 ++ c2) = onto t0 t1 t2 c1 c2 f1 (e2 ∙ count_behind t1 (codes "bytes ") (decimal (length text))) in
    let f3 : t3 ≡ t0 ++ ((c1 ++ c2) ++ c3) = onto t0 t2 t3 (c1 ++ c2) c3 f2 (e3 ∙ count_behind t2 (codes "lines ") (decimal (count_by is_lf text))) in
    let f4 : t4 ≡ t0 ++ (((c1 ++ c2) ++ c3) ++ c4) = onto t0 t3 t4 ((c1 ++ c2) ++ c3) c4 f3 (e4 ∙ count_behind t3 (codes "diagnostics ") (decimal (length list))) in
    onto t0 t4 t5 (((c1 ++ c2) ++ c3) ++ c4) (text_line (last_of list)) f4 e5 ∙ ap (λ (xs : List ℕ). xs ++ ((((c1 ++ c2) ++ c3) ++ c4) ++ text_line (last_of list))) e0
