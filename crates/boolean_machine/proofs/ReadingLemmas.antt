-- A program as it is read is lawful.
use Rattle.std.proofs.Common.{◌≡◌, ℕ, zero, suc, ◌+◌, ◌<◌, Bool, true, false, nat_eq, nat_lt, List, [], ◌∷◌, refl, sym, ap, ◌∙◌, subst, arith, ◌⊎◌, inl, inr}
use Rattle.std.specs.Prelude.{Option, None, Some, slice_get, option_map, unwrap_or, IsTrue}
use Rattle.std.proofs.Math.ListN.{length-replicate}
use Rattle.std.proofs.lemmas.Bool.Decides.{nat_tests}
use Rattle.std.proofs.lemmas.Bool.{and_parts, eq-eqb, eqb-true, cond-true, cond-false}
use Rattle.std.proofs.lemmas.Option.{same_Some}
use Rattle.truth_tables.specs.Formulas.{Formula, is_over, Constant, Opposite}
use Rattle.boolean_programs.specs.declared.statement.Choice.{Choice}
use Rattle.boolean_programs.specs.declared.statement.Choice.TheVariants.{Star, Is}
use Rattle.boolean_programs.specs.declared.statement.Statement.{Statement}
use Rattle.boolean_programs.specs.declared.program.BodyLine.{BodyLine}
use Rattle.boolean_programs.specs.Programs.{Procedure, Program, width}
use Rattle.boolean_programs.specs.declared.statement.Statement.TheVariants.{Skip, Assign, Goto, Assume, Assert, Call, Return, If, Else, While, EndIf, EndWhile, EndProc}
use Rattle.boolean_programs.specs.declared.point.Point.{Point}
use Rattle.boolean_programs.specs.Lines.{Instruction, instructions, code_from, code, line_numbers, instruction_at, first_line}
use Rattle.boolean_programs.specs.Lists.{place_in, Each}
use Rattle.boolean_machine.specs.Machine.{at_line, always, on_choice, action_of, returns_of}
use Rattle.boolean_machine.specs.Lawful.{is_assert, IsPointOf, IsLawfulAction, IsLawfulLine, IsLawful}
use Rattle.boolean_programs.specs.Structure.{IsValueOver, nested, rises, OnLine, FitsStatement, IsRead}
use Rattle.boolean_machine.proofs.ListLemmas.{get_front, get_back, get_joined, get_mapped, get_map, get_replicate}
use Rattle.boolean_machine.proofs.BlockLemmas.{goes_on, jumps, IsLed, led}

-- ---- lines that rise

above_low : (low n : ℕ) (ns : List ℕ) (m : ℕ) → rises low ns ≡ true → slice_get ns m ≡ Some n → low < n
above_low low n [] m r e = cc
above_low low n (k ∷ ns) zero r e =
    let parts = and_parts (nat_lt low k) (rises k ns) r in
    let same : k ≡ n = same_Some k n e in
    let small : low < k = lt_from low k parts.0 in
    omega arith
  where
    lt_from : (a c : ℕ) → nat_lt a c ≡ true → a < c
    lt_from a c h = grind (arith, nat_tests)
above_low low n (k ∷ ns) (suc m) r e =
    let parts = and_parts (nat_lt low k) (rises k ns) r in
    let small : low < k = lt_from low k parts.0 in
    let more = above_low k n ns m parts.1 e in
    omega arith
  where
    lt_from : (a c : ℕ) → nat_lt a c ≡ true → a < c
    lt_from a c h = grind (arith, nat_tests)

-- a number that rises stands once
pub place_once : (low : ℕ) (ns : List ℕ) (m n : ℕ) → rises low ns ≡ true → slice_get ns m ≡ Some n → place_in ns n ≡ Some m
place_once low [] m n r e = cc
place_once low (k ∷ ns) zero n r e = cond-true (nat_eq k n) (Some 0) _ (eq-eqb k n (same_Some k n e))
place_once low (k ∷ ns) (suc m) n r e =
    let parts = and_parts (nat_lt low k) (rises k ns) r in
    let more = above_low k n ns m parts.1 e in
    cond-false (nat_eq k n) (Some 0) _ (differ (nat_eq k n) refl) ∙ ap (option_map (λ j. suc j)) (place_once k ns m n parts.1 e)
  where
    differ : (b : Bool) → nat_eq k n ≡ b → b ≡ false
    differ true t =
        let same : k ≡ n = eqb-true k n t in
        let parts = and_parts (nat_lt low k) (rises k ns) r in
        let more = above_low k n ns m parts.1 e in
        absurd (omega arith)
    differ false t = refl

-- ---- the instructions of bodies

owned : (k : ℕ) (ls above : List BodyLine) (m : ℕ) (i : Instruction) → slice_get (instructions k above ls) m ≡ Some i → i.procedure ≡ k
owned k [] above m i e = cc
owned k (l ∷ ls) above zero i e = ap (λ (x : Instruction). x.procedure) (sym (same_Some _ i e))
owned k (l ∷ ls) above (suc m) i e = owned k ls (l ∷ above) m i e

instructed : (k : ℕ) (ls above : List BodyLine) (j : ℕ) (l : BodyLine) → slice_get ls j ≡ Some l → (i : Instruction) × (slice_get (instructions k above ls) j ≡ Some i) × (i.line ≡ l.line)
instructed k [] above j l e = cc
instructed k (x ∷ ls) above zero l e = (_, refl, ap (λ (y : BodyLine). y.line) (same_Some x l e))
instructed k (x ∷ ls) above (suc j) l e = instructed k ls (x ∷ above) j l e

-- a body line of a procedure is an instruction
line_in_code : (base : ℕ) (qs : List Procedure) (j : ℕ) (q : Procedure) (n : ℕ) → slice_get qs j ≡ Some q → OnLine q n
    → (m : ℕ) × (i : Instruction) × (slice_get (code_from base qs) m ≡ Some i) × (i.line ≡ n) × (i.procedure ≡ base + j)
line_in_code base [] j q n e on = cc
line_in_code base (r ∷ qs) zero q n e on =
    let same : r ≡ q = same_Some r q e in
    let there : slice_get r.body on.0 ≡ Some on.1 = ap (λ (x : Procedure). slice_get x.body on.0) same ∙ on.2 in
    let found = instructed base r.body [] on.0 on.1 there in
    let at : found.0.procedure ≡ base = owned base r.body [] on.0 found.0 found.1 in
    (on.0, found.0, get_front (instructions base [] r.body) (code_from (suc base) qs) on.0 found.0 found.1, found.2 ∙ on.3, omega arith)
line_in_code base (r ∷ qs) (suc j) q n e on =
    let later = line_in_code (suc base) qs j q n e on in
    let back = get_back (instructions base [] r.body) (code_from (suc base) qs) later.0 later.1 later.2 in
    let at = later.4 in
    (back.0, later.1, back.1, later.3, omega arith)

-- an instruction leads within its procedure
pub record Within (base : ℕ) (qs : List Procedure) (i : Instruction) : Type 0 where
  pub place : ℕ
  pub owner : Procedure
  pub found : slice_get qs place ≡ Some owner
  pub number : i.procedure ≡ base + place
  pub leads : IsLed (OnLine owner) i

own_lines : (q : Procedure) → Each (λ (l : BodyLine). OnLine q l.line) q.body
own_lines q j l e = (j, l, e, refl)

nothing_opened : (d : ℕ) {P : Type 0} → d < 0 → P
nothing_opened d h = absurd (omega arith)

code_leads : (base : ℕ) (qs : List Procedure) → Each (λ (q : Procedure). IsTrue (nested [] q.body)) qs → (m : ℕ) (i : Instruction) → slice_get (code_from base qs) m ≡ Some i → Within base qs i
code_leads base [] blocks m i e = cc
code_leads base (q ∷ qs) blocks m i e = by_part (get_joined (instructions base [] q.body) (code_from (suc base) qs) m i e) (λ j h. code_leads (suc base) qs (λ n x d. blocks (suc n) x d) j i h)
  where
    by_part : ((slice_get (instructions base [] q.body) m ≡ Some i) ⊎ ((j : ℕ) × (slice_get (code_from (suc base) qs) j ≡ Some i))) → ((j : ℕ) → slice_get (code_from (suc base) qs) j ≡ Some i → Within (suc base) qs i) → Within base (q ∷ qs) i
    by_part (inl h) more = record {
      place = 0;
      owner = q;
      found = refl;
      number = let at : i.procedure ≡ base = owned base q.body [] m i h in omega arith;
      leads = led (OnLine q) base q.body [] [] (blocks 0 q refl) (λ d h. nothing_opened d h) (λ j l e. none j l e) (own_lines q) m i h;
    }
      where
        none : (j : ℕ) (l : BodyLine) → slice_get [] j ≡ Some l → OnLine q l.line
        none j l e = cc
    by_part (inr h) more =
        let later = more h.0 h.1 in
        record { place = suc later.place; owner = later.owner; found = later.found; number = let at = later.number in omega arith; leads = later.leads }

-- ---- points

module _ (p : Program) (read : IsRead p) where
  -- the body line of a number
  pub at_number : (m : ℕ) (i : Instruction) → slice_get (code p) m ≡ Some i → instruction_at p i.line ≡ Some i
  at_number m i e =
      let at_place : Option ℕ → Option Instruction = λ o. elim o [ None ↦ None | Some k ↦ slice_get (code p) k ] in
      ap at_place (place_once 0 (line_numbers (code p)) m i.line read.rising (get_map (λ (x : Instruction). x.line) (code p) m i e)) ∙ e

  point_on : (k : ℕ) (q : Procedure) (n : ℕ) → slice_get p.procs k ≡ Some q → OnLine q n → IsPointOf p k (at_line n)
  point_on k q n found on =
      let there = line_in_code 0 p.procs k q n found on in
      record {
        instruction = there.1;
        there = ap (instruction_at p) (sym there.3) ∙ at_number there.0 there.1 there.2;
        owner = let e = there.4 in omega arith;
        asserts = λ e. cc;
      }

  begins_on : (k : ℕ) (q : Procedure) → slice_get p.procs k ≡ Some q → OnLine q (first_line q.body)
  begins_on k q found = by_body q.body refl
    where
      by_body : (ls : List BodyLine) → q.body ≡ ls → OnLine q (first_line q.body)
      by_body [] e = let h : false ≡ true = ap (nested []) (sym e) ∙ read.blocks k q found in cc
      by_body (l ∷ ls) e = (0, l, ap (λ (xs : List BodyLine). slice_get xs 0) e, ap first_line (sym e))

  module _ (i : Instruction) (q : Procedure) (found : slice_get p.procs i.procedure ≡ Some q) (n : ℕ) where
    abbrev Way : Formula ℕ × Point → Type 0
    Way w = IsTrue (is_over n w.0) × IsPointOf p i.procedure w.1

    one_way : (a : Formula ℕ × Point) → Way a → Each Way (a ∷ [])
    one_way a h zero w e = subst Way (same_Some a w e) h
    one_way a h (suc j) w e = cc

    two_ways : (a b : Formula ℕ × Point) → Way a → Way b → Each Way (a ∷ b ∷ [])
    two_ways a b h g zero w e = subst Way (same_Some a w e) h
    two_ways a b h g (suc zero) w e = subst Way (same_Some b w e) g
    two_ways a b h g (suc (suc j)) w e = cc

    point : (m : ℕ) → OnLine q m → IsPointOf p i.procedure (at_line m)
    point m on = point_on i.procedure q m found on

    choice_lawful : (c : Choice) (a b : Point) → IsValueOver n c → IsPointOf p i.procedure a → IsPointOf p i.procedure b → IsLawfulAction p i q n (on_choice c a b)
    choice_lawful Star a b over h g = two_ways (Constant true, a) (Constant true, b) (refl, h) (refl, g)
    choice_lawful (Is e) a b over h g = two_ways (e, a) (Opposite e, b) (over, h) (over, g)

    act_lawful : (s : Statement) → FitsStatement p q n s → (goes_on s ≡ true → OnLine q i.next) → (jumps (OnLine q) s ≡ true → OnLine q i.other) → (is_assert s ≡ true → IsPointOf p i.procedure (record { line = i.line; failed = true }))
        → IsLawfulAction p i q n (action_of q.returns i s)
    act_lawful Skip fits next other failure = one_way (always i.next) (refl, point i.next (next refl))
    act_lawful EndIf fits next other failure = one_way (always i.next) (refl, point i.next (next refl))
    act_lawful (Assign targets values) fits next other failure = (fits.0, fits.1, fits.2, point i.next (next refl), fits.3)
    act_lawful (Goto lines) fits next other failure = λ j w e.
        let there = get_mapped always lines j w e in
        subst Way there.2 (refl, point there.0 (fits j there.0 there.1))
    act_lawful (Assume e) fits next other failure = one_way (e, at_line i.next) (fits, point i.next (next refl))
    act_lawful (Assert e) fits next other failure = choice_lawful (Is e) (at_line i.next) (record { line = i.line; failed = true }) fits (point i.next (next refl)) (failure refl)
    act_lawful (If c) fits next other failure = choice_lawful c (at_line i.next) (at_line i.other) fits (point i.next (next refl)) (point i.other (other refl))
    act_lawful (While c) fits next other failure = choice_lawful c (at_line i.next) (at_line i.other) fits (point i.next (next refl)) (point i.other (other refl))
    act_lawful Else fits next other failure = one_way (always i.other) (refl, point i.other (other refl))
    act_lawful EndWhile fits next other failure = one_way (always i.other) (refl, point i.other (other refl))
    act_lawful (Call targets callee arguments) fits next other failure = (
      record {
        procedure = fits.0;
        found = fits.1;
        begins = point_on callee fits.0 (first_line fits.0.body) fits.1 (begins_on callee fits.0 fits.1);
        arguments_fit = fits.2;
        targets_fit = fits.3;
      },
      fits.4,
      fits.5,
      point i.next (next refl),
      fits.6,
    )
    act_lawful (Return values) fits next other failure = fits
    act_lawful EndProc fits next other failure = (length-replicate q.returns Star, λ j v e. subst (IsValueOver n) (get_replicate q.returns j Star v e) refl)

  line_lawful : (m : ℕ) (i : Instruction) → slice_get (code p) m ≡ Some i → IsLawfulLine p i
  line_lawful m i e =
      let fit = read.lines m i e in
      let within = code_leads 0 p.procs read.blocks m i e in
      let place : within.place ≡ i.procedure = let h = within.number in omega arith in
      let same : within.owner ≡ fit.owner = same_Some within.owner fit.owner (sym within.found ∙ ap (slice_get p.procs) place ∙ fit.found) in
      let leads : IsLed (OnLine fit.owner) i = subst (λ (q : Procedure). IsLed (OnLine q) i) same within.leads in
      let returns : returns_of p i.procedure ≡ fit.owner.returns = ap (λ o. unwrap_or (option_map (λ (q : Procedure). q.returns) o) 0) fit.found in
      let failure : is_assert i.statement ≡ true → IsPointOf p i.procedure (record { line = i.line; failed = true }) =
      λ h. record { instruction = i; there = at_number m i e; owner = refl; asserts = λ _. h } in
      record {
        owner = fit.owner;
        found = fit.found;
        acts = subst (λ r. IsLawfulAction p i fit.owner (p.globals + width fit.owner) (action_of r i i.statement)) (sym returns)
            (act_lawful i fit.owner fit.found (p.globals + width fit.owner) i.statement fit.fits leads.next leads.other failure);
      }

  -- a program as it is read is lawful
  pub read_is_lawful : IsLawful p
  read_is_lawful = record {
    main = read.main;
    found = read.found;
    begins = point_on p.main read.main (first_line read.main.body) read.found (begins_on p.main read.main read.found);
    lines = line_lawful;
  }
