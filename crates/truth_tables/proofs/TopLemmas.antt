-- What is open, told from what of it is in memory.
use Rattle.std.proofs.Common.{◌≡◌, ℕ, List, [], ◌∷◌, ◌++◌, reverse, map, refl, ap, ◌∙◌}
use Rattle.std.proofs.lemmas.List.{reverse-append}
use Rattle.truth_tables.specs.Grammar.{Operator as OperatorValue, Tree, depth, number_of}
use Rattle.truth_tables.specs.Stacks.{Pending, AfterNot, AfterOperator, InBracket, First2, Second2, First3, Second3, Third3}
use Rattle.truth_tables.specs.private.Kept.{kept}
use Rattle.truth_tables.specs.declared.reader.OpenPart.{OpenPart}
use Rattle.truth_tables.specs.declared.reader.OpenPart.TheVariants.{Not, Operator, Bracket as KeptBracket, First2 as KeptFirst2, Second2 as KeptSecond2, First3 as KeptFirst3, Second3 as KeptSecond3, Third3 as KeptThird3}

pub top_first : (old rest : List OpenPart) (p : OpenPart) → old ≡ rest ++ p ∷ [] → reverse old ≡ p ∷ reverse rest
top_first old rest p h = ap reverse h ∙ reverse-append rest (p ∷ [])

abbrev pub NotOnTop : List Pending → List OpenPart → Type 0
NotOnTop qs rest = (ps : List Pending) × (qs ≡ AfterNot ∷ ps) × (map kept ps ≡ rest)

pub not_on_top : (qs : List Pending) (rest : List OpenPart) → map kept qs ≡ Not ∷ rest → NotOnTop qs rest
not_on_top [] rest h = cc
not_on_top (AfterNot ∷ ps) rest h = (ps, refl, cc)
not_on_top (AfterOperator o a ∷ ps) rest h = cc
not_on_top (InBracket ∷ ps) rest h = cc
not_on_top (First2 n ∷ ps) rest h = cc
not_on_top (Second2 n a ∷ ps) rest h = cc
not_on_top (First3 n ∷ ps) rest h = cc
not_on_top (Second3 n a ∷ ps) rest h = cc
not_on_top (Third3 n a b ∷ ps) rest h = cc

abbrev pub OperatorOnTop : OperatorValue → ℕ → List Pending → List OpenPart → Type 0
OperatorOnTop q d qs rest = (a : Tree) × (ps : List Pending) × (qs ≡ AfterOperator q a ∷ ps) × (d ≡ depth a) × (map kept ps ≡ rest)

pub operator_on_top : (q : OperatorValue) (d : ℕ) (qs : List Pending) (rest : List OpenPart) → map kept qs ≡ Operator q d ∷ rest → OperatorOnTop q d qs rest
operator_on_top q d [] rest h = cc
operator_on_top q d (AfterNot ∷ ps) rest h = cc
operator_on_top q d (AfterOperator o a ∷ ps) rest h =
    let same : o ≡ q = cc in
    (a, ps, ap (λ x. AfterOperator x a ∷ ps) same, cc, cc)
operator_on_top q d (InBracket ∷ ps) rest h = cc
operator_on_top q d (First2 n ∷ ps) rest h = cc
operator_on_top q d (Second2 n a ∷ ps) rest h = cc
operator_on_top q d (First3 n ∷ ps) rest h = cc
operator_on_top q d (Second3 n a ∷ ps) rest h = cc
operator_on_top q d (Third3 n a b ∷ ps) rest h = cc

abbrev pub BracketOnTop : List Pending → List OpenPart → Type 0
BracketOnTop qs rest = (ps : List Pending) × (qs ≡ InBracket ∷ ps) × (map kept ps ≡ rest)

pub bracket_on_top : (qs : List Pending) (rest : List OpenPart) → map kept qs ≡ KeptBracket ∷ rest → BracketOnTop qs rest
bracket_on_top [] rest h = cc
bracket_on_top (AfterNot ∷ ps) rest h = cc
bracket_on_top (AfterOperator o a ∷ ps) rest h = cc
bracket_on_top (InBracket ∷ ps) rest h = (ps, refl, cc)
bracket_on_top (First2 n ∷ ps) rest h = cc
bracket_on_top (Second2 n a ∷ ps) rest h = cc
bracket_on_top (First3 n ∷ ps) rest h = cc
bracket_on_top (Second3 n a ∷ ps) rest h = cc
bracket_on_top (Third3 n a b ∷ ps) rest h = cc

abbrev pub First2OnTop : ℕ → List Pending → List OpenPart → Type 0
First2OnTop t qs rest = (n : List ℕ) × (ps : List Pending) × (qs ≡ First2 n ∷ ps) × (t ≡ number_of n) × (map kept ps ≡ rest)

pub first2_on_top : (t : ℕ) (qs : List Pending) (rest : List OpenPart) → map kept qs ≡ KeptFirst2 t ∷ rest → First2OnTop t qs rest
first2_on_top t [] rest h = cc
first2_on_top t (AfterNot ∷ ps) rest h = cc
first2_on_top t (AfterOperator o a ∷ ps) rest h = cc
first2_on_top t (InBracket ∷ ps) rest h = cc
first2_on_top t (First2 n ∷ ps) rest h = (n, ps, refl, cc, cc)
first2_on_top t (Second2 n a ∷ ps) rest h = cc
first2_on_top t (First3 n ∷ ps) rest h = cc
first2_on_top t (Second3 n a ∷ ps) rest h = cc
first2_on_top t (Third3 n a b ∷ ps) rest h = cc

abbrev pub Second2OnTop : ℕ → ℕ → List Pending → List OpenPart → Type 0
Second2OnTop t d qs rest = (n : List ℕ) × (a : Tree) × (ps : List Pending) × (qs ≡ Second2 n a ∷ ps) × (t ≡ number_of n) × (d ≡ depth a) × (map kept ps ≡ rest)

pub second2_on_top : (t d : ℕ) (qs : List Pending) (rest : List OpenPart) → map kept qs ≡ KeptSecond2 t d ∷ rest → Second2OnTop t d qs rest
second2_on_top t d [] rest h = cc
second2_on_top t d (AfterNot ∷ ps) rest h = cc
second2_on_top t d (AfterOperator o a ∷ ps) rest h = cc
second2_on_top t d (InBracket ∷ ps) rest h = cc
second2_on_top t d (First2 n ∷ ps) rest h = cc
second2_on_top t d (Second2 n a ∷ ps) rest h = (n, a, ps, refl, cc, cc, cc)
second2_on_top t d (First3 n ∷ ps) rest h = cc
second2_on_top t d (Second3 n a ∷ ps) rest h = cc
second2_on_top t d (Third3 n a b ∷ ps) rest h = cc

abbrev pub First3OnTop : ℕ → List Pending → List OpenPart → Type 0
First3OnTop t qs rest = (n : List ℕ) × (ps : List Pending) × (qs ≡ First3 n ∷ ps) × (t ≡ number_of n) × (map kept ps ≡ rest)

pub first3_on_top : (t : ℕ) (qs : List Pending) (rest : List OpenPart) → map kept qs ≡ KeptFirst3 t ∷ rest → First3OnTop t qs rest
first3_on_top t [] rest h = cc
first3_on_top t (AfterNot ∷ ps) rest h = cc
first3_on_top t (AfterOperator o a ∷ ps) rest h = cc
first3_on_top t (InBracket ∷ ps) rest h = cc
first3_on_top t (First2 n ∷ ps) rest h = cc
first3_on_top t (Second2 n a ∷ ps) rest h = cc
first3_on_top t (First3 n ∷ ps) rest h = (n, ps, refl, cc, cc)
first3_on_top t (Second3 n a ∷ ps) rest h = cc
first3_on_top t (Third3 n a b ∷ ps) rest h = cc

abbrev pub Second3OnTop : ℕ → ℕ → List Pending → List OpenPart → Type 0
Second3OnTop t d qs rest = (n : List ℕ) × (a : Tree) × (ps : List Pending) × (qs ≡ Second3 n a ∷ ps) × (t ≡ number_of n) × (d ≡ depth a) × (map kept ps ≡ rest)

pub second3_on_top : (t d : ℕ) (qs : List Pending) (rest : List OpenPart) → map kept qs ≡ KeptSecond3 t d ∷ rest → Second3OnTop t d qs rest
second3_on_top t d [] rest h = cc
second3_on_top t d (AfterNot ∷ ps) rest h = cc
second3_on_top t d (AfterOperator o a ∷ ps) rest h = cc
second3_on_top t d (InBracket ∷ ps) rest h = cc
second3_on_top t d (First2 n ∷ ps) rest h = cc
second3_on_top t d (Second2 n a ∷ ps) rest h = cc
second3_on_top t d (First3 n ∷ ps) rest h = cc
second3_on_top t d (Second3 n a ∷ ps) rest h = (n, a, ps, refl, cc, cc, cc)
second3_on_top t d (Third3 n a b ∷ ps) rest h = cc

abbrev pub Third3OnTop : ℕ → ℕ → ℕ → List Pending → List OpenPart → Type 0
Third3OnTop t c d qs rest = (n : List ℕ) × (a : Tree) × (b : Tree) × (ps : List Pending) × (qs ≡ Third3 n a b ∷ ps) × (t ≡ number_of n) × (c ≡ depth a) × (d ≡ depth b) × (map kept ps ≡ rest)

pub third3_on_top : (t c d : ℕ) (qs : List Pending) (rest : List OpenPart) → map kept qs ≡ KeptThird3 t c d ∷ rest → Third3OnTop t c d qs rest
third3_on_top t c d [] rest h = cc
third3_on_top t c d (AfterNot ∷ ps) rest h = cc
third3_on_top t c d (AfterOperator o a ∷ ps) rest h = cc
third3_on_top t c d (InBracket ∷ ps) rest h = cc
third3_on_top t c d (First2 n ∷ ps) rest h = cc
third3_on_top t c d (Second2 n a ∷ ps) rest h = cc
third3_on_top t c d (First3 n ∷ ps) rest h = cc
third3_on_top t c d (Second3 n a ∷ ps) rest h = cc
third3_on_top t c d (Third3 n a b ∷ ps) rest h = (n, a, b, ps, refl, cc, cc, cc, cc)
