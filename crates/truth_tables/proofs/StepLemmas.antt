-- What comes of a word more.
use Rattle.std.proofs.Common.{◌≡◌, ℕ, ◌+◌, ◌<◌, ◌≤◌, Bool, true, false, not, ◌||◌, cond, List, [], ◌∷◌, ◌++◌, reverse, map, length, Option, Some, None, option_map, refl, sym, ap, ap₂, ◌∙◌, subst, arith, inl, inr}
use Rattle.std.proofs.lemmas.List.{length-map, length-reverse}
use Rattle.std.proofs.lemmas.Bool.{lt-ltb, le-ltb, leb-true, leb-false, ltb-true, ltb-false, or_parts}
use Rattle.std.specs.Prelude.{Result, Ok, Err, max, nat_lt, nat_le, codes, bytes_eq}
use Rattle.wpds_base.specs.Limits.{most_table2, most_table3}
use Rattle.wpds_port.specs.declared.Mark.TheVariants.{Not as NotMark, Open}
use Rattle.wpds_port.specs.declared.Word.TheVariants.{Name, Number, Mark as Sign}
use Rattle.truth_tables.specs.Formulas.{Formula, Binary, Ternary}
use Rattle.truth_tables.specs.Grammar.{Tree, Constant, Variable, Bracket, Table2, Table3, depth, formula_of, number_of, has_large_table, is_variable_word}
use Rattle.truth_tables.specs.Postfix.{taken}
use Rattle.truth_tables.specs.Stacks.{constant_of, Pending, AfterNot, AfterOperator, InBracket, First2, Second2, First3, Second3, Third3, Reading, Wants, Word2, Word3, Number2, Number3, Has, at_comma, at_close, at_name, next_reading}
use Rattle.truth_tables.specs.private.Depths.{least}
use Rattle.truth_tables.specs.private.Shapes.{has_large}
use Rattle.truth_tables.specs.private.Kept.{kept, held, AreNamed, HasOperand, IsAt, IsMade, IsStep, IsOpening, IsStepping, IsBehind, behind_made, counted2, counted3}
use Rattle.truth_tables.specs.declared.part.Part.{Part}
use Rattle.truth_tables.specs.declared.part.Part.TheVariants.{Const as ConstPart, Var as VarPart, Two as TwoPart, Three as ThreePart}
use Rattle.truth_tables.specs.declared.stop.Stop.{Stop}
use Rattle.truth_tables.specs.declared.stop.Stop.TheVariants.{Form, Excess, Memory}
use Rattle.truth_tables.specs.declared.reader.OpenPart.{OpenPart}
use Rattle.truth_tables.specs.declared.reader.OpenPart.TheVariants.{Not, Bracket as KeptBracket, First2 as KeptFirst2, Second2 as KeptSecond2, First3 as KeptFirst3, Second3 as KeptSecond3, Third3 as KeptThird3}
use Rattle.truth_tables.specs.declared.reader.Position.{Position}
use Rattle.truth_tables.specs.declared.reader.Position.TheVariants.{Wanted, Behind2, Behind3, Counted2, Counted3}
use Rattle.truth_tables.proofs.DepthLemmas.{one_each}
use Rattle.truth_tables.proofs.ShapeLemmas.{swap_two, swap_three}
use Rattle.truth_tables.proofs.TopLemmas.{top_first, bracket_on_top, first2_on_top, second2_on_top, first3_on_top, second3_on_top, third3_on_top}
use Rattle.truth_tables.proofs.KeptLemmas.{constant_named, variable_named, binary_named, ternary_named, at_least}

-- ---- a part more is open

-- what comes of leaving this open before an operand
pub opens : (limit : ℕ) (names : List (List ℕ)) (old now : List OpenPart) (fs gs : List (Formula ℕ)) (p : Pending) (ps : List Pending) (result : Result Position Stop)
    → gs ≡ fs → map kept ps ≡ reverse old → AreNamed names (held (p ∷ ps)) fs → has_large (p ∷ ps) ≡ false → IsOpening limit old (kept p) result now
    → IsStep limit names (Some (Wants (p ∷ ps))) result now gs
opens limit names old now fs gs p ps (Ok q) same opened built small h =
    let at : IsAt limit names (Wants (p ∷ ps)) Wanted now gs =
    (p ∷ ps, refl, record { opened = ap (λ xs. kept p ∷ xs) opened ∙ sym (top_first now old (kept p) h.1); built = subst (AreNamed names (held (p ∷ ps))) (sym same) built; small = small }) in
    (Wants (p ∷ ps), refl, subst (λ x. IsAt limit names (Wants (p ∷ ps)) x now gs) (sym h.0) at)
opens limit names old now fs gs p ps (Err Excess) same opened built small h =
    let long : length ps ≡ length old = sym (length-map ps kept) ∙ ap length opened ∙ length-reverse old in
    let deep : limit < least (p ∷ ps) 1 = omega (arith, h, long, one_each (p ∷ ps) 1) in
    inl deep
opens limit names old now fs gs p ps (Err Memory) same opened built small h = tt
opens limit names old now fs gs p ps (Err Form) same opened built small h = absurd h

module _ (limit place : ℕ) (old now : List OpenPart) (fs gs : List (Formula ℕ)) (result : Result Position Stop) (same : gs ≡ fs) where
  pub not_opens : IsOpening limit old Not result now → IsStepping limit Wanted (Sign NotMark) place old fs result now gs
  not_opens h names r at told =
      subst (λ x. IsStep limit names (next_reading x (Sign NotMark)) result now gs) (sym at.1)
      (opens limit names old now fs gs AfterNot at.0 result same at.2.opened at.2.built at.2.small h)

  pub bracket_opens : IsOpening limit old KeptBracket result now → IsStepping limit Wanted (Sign Open) place old fs result now gs
  bracket_opens h names r at told =
      subst (λ x. IsStep limit names (next_reading x (Sign Open)) result now gs) (sym at.1)
      (opens limit names old now fs gs InBracket at.0 result same at.2.opened at.2.built at.2.small h)

  pub first2_opens : (t : ℕ) → IsOpening limit old (KeptFirst2 t) result now → IsStepping limit (Counted2 t) (Sign Open) place old fs result now gs
  first2_opens t h names r at told =
      let within : number_of at.1 ≤ most_table2 = omega (arith, at.3, at.4) in
      let small = ap (λ b. b || has_large at.0) (le-ltb most_table2 (number_of at.1) within) ∙ at.5.small in
      subst (λ x. IsStep limit names (next_reading x (Sign Open)) result now gs) (sym at.2)
      (opens limit names old now fs gs (First2 at.1) at.0 result same at.5.opened at.5.built small (subst (λ k. IsOpening limit old (KeptFirst2 k) result now) at.3 h))

  pub first3_opens : (t : ℕ) → IsOpening limit old (KeptFirst3 t) result now → IsStepping limit (Counted3 t) (Sign Open) place old fs result now gs
  first3_opens t h names r at told =
      let within : number_of at.1 ≤ most_table3 = omega (arith, at.3, at.4) in
      let small = ap (λ b. b || has_large at.0) (le-ltb most_table3 (number_of at.1) within) ∙ at.5.small in
      subst (λ x. IsStep limit names (next_reading x (Sign Open)) result now gs) (sym at.2)
      (opens limit names old now fs gs (First3 at.1) at.0 result same at.5.opened at.5.built small (subst (λ k. IsOpening limit old (KeptFirst3 k) result now) at.3 h))

-- ---- an operand more

-- what comes of an operand, whose last part is put behind the others
makes : (limit : ℕ) (names : List (List ℕ)) (now : List OpenPart) (fs gs : List (Formula ℕ)) (ps : List Pending) (e : Tree) (below : ℕ) (p : Part) (made : Result ℕ Stop)
    → map kept ps ≡ reverse now → depth e ≡ below + 1 → has_large_table e || has_large ps ≡ false → AreNamed names (formula_of e ∷ held ps) (taken p fs) → IsMade limit below p fs made gs
    → IsStep limit names (Some (Has ps e)) (behind_made made) now gs
makes limit names now fs gs ps e below p (Ok d) opened deep small built h =
    let at : HasOperand limit names ps e now gs d =
    record { opened = opened; built = subst (AreNamed names (formula_of e ∷ held ps)) (sym h.2) built; small = small; depth_is = omega (arith, h.0, deep); shallow = omega (arith, h.0, h.1) } in
    (Has ps e, refl, (ps, e, refl, at))
makes limit names now fs gs ps e below p (Err Excess) opened deep small built h =
    let more : limit < least ps (depth e) = omega (arith, h, deep, at_least ps (depth e)) in
    inl more
makes limit names now fs gs ps e below p (Err Memory) opened deep small built h = tt
makes limit names now fs gs ps e below p (Err Form) opened deep small built h = absurd h

-- the same of a pair of brackets, of which no part is put there
encloses : (limit : ℕ) (names : List (List ℕ)) (now : List OpenPart) (fs : List (Formula ℕ)) (ps : List Pending) (e : Tree) (d : ℕ) (made : Result ℕ Stop)
    → map kept ps ≡ reverse now → d ≡ depth e → has_large_table e || has_large ps ≡ false → AreNamed names (formula_of e ∷ held ps) fs
    → made ≡ cond (nat_lt d limit) (Ok (d + 1)) (Err Excess)
    → IsStep limit names (Some (Has ps (Bracket e))) (behind_made made) now fs
encloses limit names now fs ps e d made opened deep small built is =
    subst (λ x. IsStep limit names (Some (Has ps (Bracket e))) (behind_made x) now fs) (sym is) (go (nat_lt d limit) refl)
  where
    go : (t : Bool) → nat_lt d limit ≡ t → IsStep limit names (Some (Has ps (Bracket e))) (behind_made (cond t (Ok (d + 1)) (Err Excess))) now fs
    go true is =
        let at : HasOperand limit names ps (Bracket e) now fs (d + 1) =
        record { opened = opened; built = built; small = small; depth_is = omega (arith, deep); shallow = omega (arith, ltb-true d limit is) } in
        (Has ps (Bracket e), refl, (ps, Bracket e, refl, at))
    go false is =
        let more : limit < least ps (depth e + 1) = omega (arith, ltb-false d limit is, deep, at_least ps (depth e + 1)) in
        inl more

-- ---- a name or a number where an operand is wanted

module _ (limit place : ℕ) (old : List OpenPart) (fs : List (Formula ℕ)) (x : List ℕ) where
  abbrev reads : (r s t : Bool) (ps : List Pending) → Option Reading
  reads r s t ps = cond r None (cond s (Some (Word2 ps)) (cond t (Some (Word3 ps)) (Some (Has ps (Variable x)))))

  pub name_return : bytes_eq x (codes "return") ≡ true → IsStepping limit Wanted (Name x) place old fs (Err Form) old fs
  name_return h names r at told =
      let is : at_name at.0 x ≡ None = ap (λ b. reads b (bytes_eq x (codes "tab2")) (bytes_eq x (codes "tab3")) at.0) h in
      ap (λ y. next_reading y (Name x)) at.1 ∙ is

  pub name_table2 : bytes_eq x (codes "return") ≡ false → bytes_eq x (codes "tab2") ≡ true → IsStepping limit Wanted (Name x) place old fs (Ok Behind2) old fs
  name_table2 h i names r at told =
      let is : at_name at.0 x ≡ Some (Word2 at.0) =
      ap (λ b. reads b (bytes_eq x (codes "tab2")) (bytes_eq x (codes "tab3")) at.0) h ∙ ap (λ b. reads false b (bytes_eq x (codes "tab3")) at.0) i in
      (Word2 at.0, ap (λ y. next_reading y (Name x)) at.1 ∙ is, (at.0, refl, at.2))

  pub name_table3 : bytes_eq x (codes "return") ≡ false → bytes_eq x (codes "tab2") ≡ false → bytes_eq x (codes "tab3") ≡ true → IsStepping limit Wanted (Name x) place old fs (Ok Behind3) old fs
  name_table3 h i j names r at told =
      let is : at_name at.0 x ≡ Some (Word3 at.0) =
      ap (λ b. reads b (bytes_eq x (codes "tab2")) (bytes_eq x (codes "tab3")) at.0) h ∙ ap (λ b. reads false b (bytes_eq x (codes "tab3")) at.0) i
      ∙ ap (λ b. reads false false b at.0) j in
      (Word3 at.0, ap (λ y. next_reading y (Name x)) at.1 ∙ is, (at.0, refl, at.2))

  pub name_variable : (gs : List (Formula ℕ)) (made : Result ℕ Stop) (result : Result Position Stop)
      → bytes_eq x (codes "return") ≡ false → bytes_eq x (codes "tab2") ≡ false → bytes_eq x (codes "tab3") ≡ false
      → IsMade limit 0 (VarPart place) fs made gs → result ≡ behind_made made → IsStepping limit Wanted (Name x) place old fs result old gs
  name_variable gs made result h i j m so names r at told =
      let is : at_name at.0 x ≡ Some (Has at.0 (Variable x)) =
      ap (λ b. reads b (bytes_eq x (codes "tab2")) (bytes_eq x (codes "tab3")) at.0) h ∙ ap (λ b. reads false b (bytes_eq x (codes "tab3")) at.0) i
      ∙ ap (λ b. reads false false b at.0) j in
      let variable : is_variable_word (Name x) ≡ true = ap (λ b. not (b || bytes_eq x (codes "tab3"))) i ∙ ap not j in
      let step = makes limit names old fs gs at.0 (Variable x) 0 (VarPart place) made at.2.opened refl at.2.small (variable_named names place x (held at.0) fs (told variable) at.2.built) m in
      subst (λ y. IsStep limit names y result old gs) (sym (ap (λ y. next_reading y (Name x)) at.1 ∙ is))
      (subst (λ y. IsStep limit names (Some (Has at.0 (Variable x))) y old gs) (sym so) step)

  abbrev constant_next : Option Bool → List Pending → Option Reading
  constant_next o ps = option_map (λ b. Has ps (Constant b)) o

  number_constant : (b : Bool) (gs : List (Formula ℕ)) (made : Result ℕ Stop) (result : Result Position Stop)
      → constant_of x ≡ Some b → IsMade limit 0 (ConstPart b) fs made gs → result ≡ behind_made made → IsStepping limit Wanted (Number x) place old fs result old gs
  number_constant b gs made result is m so names r at told =
      let step = makes limit names old fs gs at.0 (Constant b) 0 (ConstPart b) made at.2.opened refl at.2.small (constant_named names b (held at.0) fs at.2.built) m in
      subst (λ y. IsStep limit names y result old gs) (sym (ap (λ y. next_reading y (Number x)) at.1 ∙ ap (λ o. constant_next o at.0) is))
      (subst (λ y. IsStep limit names (Some (Has at.0 (Constant b))) y old gs) (sym so) step)

  abbrev constants : Bool → Bool → Option Bool
  constants s t = cond s (Some false) (cond t (Some true) None)

  pub number_zero : (gs : List (Formula ℕ)) (made : Result ℕ Stop) (result : Result Position Stop)
      → bytes_eq x (codes "0") ≡ true → IsMade limit 0 (ConstPart false) fs made gs → result ≡ behind_made made → IsStepping limit Wanted (Number x) place old fs result old gs
  number_zero gs made result h m so = number_constant false gs made result (ap (λ b. constants b (bytes_eq x (codes "1"))) h) m so

  pub number_one : (gs : List (Formula ℕ)) (made : Result ℕ Stop) (result : Result Position Stop)
      → bytes_eq x (codes "0") ≡ false → bytes_eq x (codes "1") ≡ true → IsMade limit 0 (ConstPart true) fs made gs → result ≡ behind_made made
      → IsStepping limit Wanted (Number x) place old fs result old gs
  number_one gs made result h i m so =
      number_constant true gs made result (ap (λ b. constants b (bytes_eq x (codes "1"))) h ∙ ap (constants false) i) m so

  pub number_other : bytes_eq x (codes "0") ≡ false → bytes_eq x (codes "1") ≡ false → IsStepping limit Wanted (Number x) place old fs (Err Form) old fs
  number_other h i names r at told =
      ap (λ y. next_reading y (Number x)) at.1 ∙ ap (λ o. constant_next o at.0) (ap (λ b. constants b (bytes_eq x (codes "1"))) h ∙ ap (constants false) i)

-- ---- the number of a table

pub number2_steps : (limit place : ℕ) (old : List OpenPart) (fs : List (Formula ℕ)) (n : List ℕ) (result : Result Position Stop) → result ≡ counted2 n → IsStepping limit Behind2 (Number n) place old fs result old fs
number2_steps limit place old fs n result is names r at told =
    subst (λ y. IsStep limit names (next_reading y (Number n)) result old fs) (sym at.1)
    (subst (λ y. IsStep limit names (Some (Number2 at.0 n)) y old fs) (sym is) (go (nat_le (number_of n) most_table2) refl))
  where
    go : (t : Bool) → nat_le (number_of n) most_table2 ≡ t → IsStep limit names (Some (Number2 at.0 n)) (cond t (Ok (Counted2 (number_of n))) (Err Excess)) old fs
    go true h = (Number2 at.0 n, refl, (at.0, n, refl, refl, leb-true (number_of n) most_table2 h, at.2))
    go false h = inr (ap (λ b. b || has_large at.0) (lt-ltb most_table2 (number_of n) (leb-false (number_of n) most_table2 h)))

pub number3_steps : (limit place : ℕ) (old : List OpenPart) (fs : List (Formula ℕ)) (n : List ℕ) (result : Result Position Stop) → result ≡ counted3 n → IsStepping limit Behind3 (Number n) place old fs result old fs
number3_steps limit place old fs n result is names r at told =
    subst (λ y. IsStep limit names (next_reading y (Number n)) result old fs) (sym at.1)
    (subst (λ y. IsStep limit names (Some (Number3 at.0 n)) y old fs) (sym is) (go (nat_le (number_of n) most_table3) refl))
  where
    go : (t : Bool) → nat_le (number_of n) most_table3 ≡ t → IsStep limit names (Some (Number3 at.0 n)) (cond t (Ok (Counted3 (number_of n))) (Err Excess)) old fs
    go true h = (Number3 at.0 n, refl, (at.0, n, refl, refl, leb-true (number_of n) most_table3 h, at.2))
    go false h = inr (ap (λ b. b || has_large at.0) (lt-ltb most_table3 (number_of n) (leb-false (number_of n) most_table3 h)))

-- ---- a comma behind an operand

pub comma_none : (limit : ℕ) (old now : List OpenPart) (fs gs : List (Formula ℕ)) (d : ℕ) → old ≡ [] → IsBehind at_comma limit old fs d (Err Form) now gs
comma_none limit old now fs gs d h names qs e has = go qs (has.opened ∙ ap reverse h)
  where
    go : (qs : List Pending) → map kept qs ≡ [] → at_comma qs e ≡ None
    go [] i = refl
    go (q ∷ qs) i = cc

pub comma_first2 : (limit : ℕ) (old rest now : List OpenPart) (fs gs : List (Formula ℕ)) (d t : ℕ) (result : Result Position Stop) → gs ≡ fs → old ≡ rest ++ KeptFirst2 t ∷ [] → IsOpening limit rest (KeptSecond2 t d) result now
    → IsBehind at_comma limit old fs d result now gs
comma_first2 limit old rest now fs gs d t result same h i names qs e k =
    let top = first2_on_top t qs (reverse rest) (k.opened ∙ top_first old rest (KeptFirst2 t) h) in
    let has = subst (λ x. HasOperand limit names x e old fs d) top.2 k in
    let is : KeptSecond2 t d ≡ kept (Second2 top.0 e) = ap₂ KeptSecond2 top.3 has.depth_is in
    subst (λ x. IsStep limit names (at_comma x e) result now gs) (sym top.2)
    (opens limit names rest now fs gs (Second2 top.0 e) top.1 result same top.4 has.built has.small (subst (λ p. IsOpening limit rest p result now) is i))

pub comma_first3 : (limit : ℕ) (old rest now : List OpenPart) (fs gs : List (Formula ℕ)) (d t : ℕ) (result : Result Position Stop) → gs ≡ fs → old ≡ rest ++ KeptFirst3 t ∷ [] → IsOpening limit rest (KeptSecond3 t d) result now
    → IsBehind at_comma limit old fs d result now gs
comma_first3 limit old rest now fs gs d t result same h i names qs e k =
    let top = first3_on_top t qs (reverse rest) (k.opened ∙ top_first old rest (KeptFirst3 t) h) in
    let has = subst (λ x. HasOperand limit names x e old fs d) top.2 k in
    let is : KeptSecond3 t d ≡ kept (Second3 top.0 e) = ap₂ KeptSecond3 top.3 has.depth_is in
    subst (λ x. IsStep limit names (at_comma x e) result now gs) (sym top.2)
    (opens limit names rest now fs gs (Second3 top.0 e) top.1 result same top.4 has.built has.small (subst (λ p. IsOpening limit rest p result now) is i))

pub comma_second3 : (limit : ℕ) (old rest now : List OpenPart) (fs gs : List (Formula ℕ)) (d t c : ℕ) (result : Result Position Stop) → gs ≡ fs → old ≡ rest ++ KeptSecond3 t c ∷ [] → IsOpening limit rest (KeptThird3 t c d) result now
    → IsBehind at_comma limit old fs d result now gs
comma_second3 limit old rest now fs gs d t c result same h i names qs e k =
    let top = second3_on_top t c qs (reverse rest) (k.opened ∙ top_first old rest (KeptSecond3 t c) h) in
    let has = subst (λ x. HasOperand limit names x e old fs d) top.3 k in
    let is : KeptThird3 t c d ≡ kept (Third3 top.0 top.1 e) = ap₂ (λ x y. KeptThird3 x y d) top.4 top.5 ∙ ap (KeptThird3 (number_of top.0) (depth top.1)) has.depth_is in
    subst (λ x. IsStep limit names (at_comma x e) result now gs) (sym top.3)
    (opens limit names rest now fs gs (Third3 top.0 top.1 e) top.2 result same top.6 has.built has.small (subst (λ p. IsOpening limit rest p result now) is i))

abbrev pub IsNoComma : OpenPart → Type 0
IsNoComma (KeptFirst2 t) = ⊥
IsNoComma (KeptFirst3 t) = ⊥
IsNoComma (KeptSecond3 t c) = ⊥
IsNoComma p = Unit {0}

pub comma_other : (limit : ℕ) (old rest now : List OpenPart) (fs gs : List (Formula ℕ)) (d : ℕ) (p : OpenPart) → old ≡ rest ++ p ∷ [] → IsNoComma p → IsBehind at_comma limit old fs d (Err Form) now gs
comma_other limit old rest now fs gs d p h i names qs e has = go qs (has.opened ∙ top_first old rest p h)
  where
    go : (qs : List Pending) → map kept qs ≡ p ∷ reverse rest → at_comma qs e ≡ None
    go [] j = cc
    go (AfterNot ∷ ps) j = refl
    go (AfterOperator o a ∷ ps) j = refl
    go (InBracket ∷ ps) j = refl
    go (First2 n ∷ ps) j = let is : p ≡ KeptFirst2 (number_of n) = cc in absurd (subst IsNoComma is i)
    go (Second2 n a ∷ ps) j = refl
    go (First3 n ∷ ps) j = let is : p ≡ KeptFirst3 (number_of n) = cc in absurd (subst IsNoComma is i)
    go (Second3 n a ∷ ps) j = let is : p ≡ KeptSecond3 (number_of n) (depth a) = cc in absurd (subst IsNoComma is i)
    go (Third3 n a b ∷ ps) j = refl

-- ---- a closing bracket behind an operand

pub close_none : (limit : ℕ) (old now : List OpenPart) (fs gs : List (Formula ℕ)) (d : ℕ) → old ≡ [] → IsBehind at_close limit old fs d (Err Form) now gs
close_none limit old now fs gs d h names qs e has = go qs (has.opened ∙ ap reverse h)
  where
    go : (qs : List Pending) → map kept qs ≡ [] → at_close qs e ≡ None
    go [] i = refl
    go (q ∷ qs) i = cc

pub close_bracket : (limit : ℕ) (old rest : List OpenPart) (fs : List (Formula ℕ)) (d : ℕ) (made : Result ℕ Stop) (result : Result Position Stop) → old ≡ rest ++ KeptBracket ∷ []
    → made ≡ cond (nat_lt d limit) (Ok (d + 1)) (Err Excess) → result ≡ behind_made made → IsBehind at_close limit old fs d result rest fs
close_bracket limit old rest fs d made result h m so names qs e k =
    let top = bracket_on_top qs (reverse rest) (k.opened ∙ top_first old rest KeptBracket h) in
    let has = subst (λ x. HasOperand limit names x e old fs d) top.1 k in
    let step = encloses limit names rest fs top.0 e d made top.2 has.depth_is has.small has.built m in
    subst (λ x. IsStep limit names (at_close x e) result rest fs) (sym top.1)
    (subst (λ y. IsStep limit names (Some (Has top.0 (Bracket e))) y rest fs) (sym so) step)

small_table : (n : List ℕ) (t : ℕ) → t ≡ number_of n → nat_lt most_table2 (number_of n) ≡ false → nat_lt t 16 ≡ true
small_table n t is h = lt-ltb t 16 (omega (arith, is, ltb-false most_table2 (number_of n) h))

pub close_second2 : (limit : ℕ) (old rest : List OpenPart) (fs gs : List (Formula ℕ)) (d t c : ℕ) (made : Result ℕ Stop) (result : Result Position Stop) → old ≡ rest ++ KeptSecond2 t c ∷ []
    → IsMade limit (max c d) (TwoPart t) fs made gs → result ≡ behind_made made → IsBehind at_close limit old fs d result rest gs
close_second2 limit old rest fs gs d t c made result h m so names qs e k =
    let top = second2_on_top t c qs (reverse rest) (k.opened ∙ top_first old rest (KeptSecond2 t c) h) in
    let n = top.0 in
    let a = top.1 in
    let ps = top.2 in
    let has = subst (λ x. HasOperand limit names x e old fs d) top.3 k in
    let parts = or_parts (has_large_table a) (nat_lt most_table2 (number_of n) || has_large ps) (or_parts (has_large_table e) _ has.small).1 in
    let small = small_table n t top.4 (or_parts (nat_lt most_table2 (number_of n)) (has_large ps) parts.1).0 in
    let built = binary_named names t (formula_of a) (formula_of e) (held ps) fs small has.built in
    let step =
    makes limit names rest fs gs ps (Table2 n a e) (max c d) (TwoPart t) made top.6 (ap₂ (λ x y. max x y + 1) (sym top.5) (sym has.depth_is))
    (swap_two (nat_lt most_table2 (number_of n)) (has_large_table a) (has_large_table e) (has_large ps) ∙ has.small)
    (subst (λ x. AreNamed names (Binary x (formula_of a) (formula_of e) ∷ held ps) (taken (TwoPart t) fs)) top.4 built) m
    in
    subst (λ x. IsStep limit names (at_close x e) result rest gs) (sym top.3)
    (subst (λ y. IsStep limit names (Some (Has ps (Table2 n a e))) y rest gs) (sym so) step)

pub close_third3 : (limit : ℕ) (old rest : List OpenPart) (fs gs : List (Formula ℕ)) (d t b c : ℕ) (made : Result ℕ Stop) (result : Result Position Stop) → old ≡ rest ++ KeptThird3 t b c ∷ []
    → IsMade limit (max b (max c d)) (ThreePart t) fs made gs → result ≡ behind_made made → IsBehind at_close limit old fs d result rest gs
close_third3 limit old rest fs gs d t b c made result h m so names qs e k =
    let top = third3_on_top t b c qs (reverse rest) (k.opened ∙ top_first old rest (KeptThird3 t b c) h) in
    let n = top.0 in
    let f = top.1 in
    let g = top.2 in
    let ps = top.3 in
    let has = subst (λ x. HasOperand limit names x e old fs d) top.4 k in
    let built = ternary_named names t (formula_of f) (formula_of g) (formula_of e) (held ps) fs has.built in
    let deep : depth (Table3 n f g e) ≡ max b (max c d) + 1 =
    ap₂ (λ x y. max x (max y (depth e)) + 1) (sym top.6) (sym top.7) ∙ ap (λ x. max b (max c x) + 1) (sym has.depth_is) in
    let step =
    makes limit names rest fs gs ps (Table3 n f g e) (max b (max c d)) (ThreePart t) made top.8 deep
    (swap_three (nat_lt most_table3 (number_of n)) (has_large_table f) (has_large_table g) (has_large_table e) (has_large ps) ∙ has.small)
    (subst (λ x. AreNamed names (Ternary x (formula_of f) (formula_of g) (formula_of e) ∷ held ps) (taken (ThreePart t) fs)) top.5 built) m
    in
    subst (λ x. IsStep limit names (at_close x e) result rest gs) (sym top.4)
    (subst (λ y. IsStep limit names (Some (Has ps (Table3 n f g e))) y rest gs) (sym so) step)

abbrev pub IsNoClose : OpenPart → Type 0
IsNoClose KeptBracket = ⊥
IsNoClose (KeptSecond2 t c) = ⊥
IsNoClose (KeptThird3 t b c) = ⊥
IsNoClose p = Unit {0}

pub close_other : (limit : ℕ) (old rest now : List OpenPart) (fs gs : List (Formula ℕ)) (d : ℕ) (p : OpenPart) → old ≡ rest ++ p ∷ [] → IsNoClose p → IsBehind at_close limit old fs d (Err Form) now gs
close_other limit old rest now fs gs d p h i names qs e has = go qs (has.opened ∙ top_first old rest p h)
  where
    go : (qs : List Pending) → map kept qs ≡ p ∷ reverse rest → at_close qs e ≡ None
    go [] j = cc
    go (AfterNot ∷ ps) j = refl
    go (AfterOperator o a ∷ ps) j = refl
    go (InBracket ∷ ps) j = let is : p ≡ KeptBracket = cc in absurd (subst IsNoClose is i)
    go (First2 n ∷ ps) j = refl
    go (Second2 n a ∷ ps) j = let is : p ≡ KeptSecond2 (number_of n) (depth a) = cc in absurd (subst IsNoClose is i)
    go (First3 n ∷ ps) j = refl
    go (Second3 n a ∷ ps) j = refl
    go (Third3 n a b ∷ ps) j = let is : p ≡ KeptThird3 (number_of n) (depth a) (depth b) = cc in absurd (subst IsNoClose is i)
