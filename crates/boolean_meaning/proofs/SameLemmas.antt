-- Tests on states as they are held, and the same tests on states of the machine.
use Rattle.std.proofs.Common.{◌≡◌, ℕ, suc, Bool, true, false, not, ◌&&◌, ◌||◌, nat_eq, List, [], ◌∷◌, map, refl, sym, ap, ap₂, ◌∙◌}
use Rattle.std.specs.Prelude.{Option, None, Some, slice_get, is_some, if◌then◌else◌, option_map}
use Rattle.std.specs.List.{list_any}
use Rattle.std.specs.Cmp.{both_ways}
use Rattle.std.proofs.lemmas.Bool.{and_parts, and_from, eqb-true, eq-eqb}
use Rattle.truth_tables.specs.Formulas.{Formula, Constant, Opposite}
use Rattle.boolean_programs.specs.declared.point.Point.{Point}
use Rattle.boolean_programs.specs.declared.statement.Choice.TheVariants.{Star, Is}
use Rattle.boolean_programs.specs.declared.statement.Statement.{Statement}
use Rattle.boolean_programs.specs.declared.statement.Statement.TheVariants.{Skip, Assign, Goto, Assume, Assert, Call, Return, If, Else, While, EndIf, EndWhile, EndProc}
use Rattle.boolean_programs.specs.Lists.{place_in}
use Rattle.boolean_programs.specs.Lines.{Instruction}
use Rattle.boolean_machine.specs.Machine.{at_line, always, value_at, Jumps, action_of}
use Rattle.boolean_machine.specs.Picks.{listed}
use Rattle.boolean_machine.specs.Tests.{same_flag, same_bits, same_point}
use Rattle.boolean_meaning.specs.Bits.{bit_of, number_of}
use Rattle.boolean_meaning.specs.private.HeldMoves.{is_point, may_lead}

-- ---- tests

-- what is behind a test counts only where it is true
pub and_if : (a b c : Bool) → (a ≡ true → b ≡ c) → (a && b) ≡ (a && c)
and_if true b c same = same refl
and_if false b c same = refl

pub true_and : (a b : Bool) → a ≡ true → (a && b) ≡ b
true_and true b h = refl
true_and false b h = cc

or_none : (b : Bool) → (b || false) ≡ b
or_none true = refl
or_none false = refl

-- ---- bits and numbers

flags_are : (a b : Bool) → same_flag a b ≡ true → a ≡ b
flags_are true true h = refl
flags_are true false h = cc
flags_are false true h = cc
flags_are false false h = refl

flag_itself : (a : Bool) → same_flag a a ≡ true
flag_itself true = refl
flag_itself false = refl

bits_are : (xs ys : List Bool) → same_bits xs ys ≡ true → xs ≡ ys
bits_are [] [] h = refl
bits_are [] (y ∷ ys) h = cc
bits_are (x ∷ xs) [] h = cc
bits_are (x ∷ xs) (y ∷ ys) h =
    let parts = and_parts (same_flag x y) (same_bits xs ys) h in
    ap₂ (λ (b : Bool) (bs : List Bool). b ∷ bs) (flags_are x y parts.0) (bits_are xs ys parts.1)

bits_itself : (xs : List Bool) → same_bits xs xs ≡ true
bits_itself [] = refl
bits_itself (x ∷ xs) = and_from (same_flag x x) (same_bits xs xs) (flag_itself x) (bits_itself xs)

-- as many bits of two numbers are the same where the numbers are, if they have no further bits
pub same_numbers : (n m a b : ℕ) → n ≡ m → number_of (listed n (bit_of a)) ≡ a → number_of (listed m (bit_of b)) ≡ b
    → same_bits (listed n (bit_of a)) (listed m (bit_of b)) ≡ nat_eq a b
same_numbers n m a b wide x y =
    both_ways (same_bits (listed n (bit_of a)) (listed m (bit_of b))) (nat_eq a b)
    (λ h. eq-eqb a b (sym x ∙ ap number_of (bits_are (listed n (bit_of a)) (listed m (bit_of b)) h) ∙ y))
    (λ h.
    ap₂ (λ k c. same_bits (listed n (bit_of a)) (listed k (bit_of c))) (sym wide) (sym (eqb-true a b h))
    ∙ bits_itself (listed n (bit_of a)))

pub same_line : (a b : Point) → same_point a b ≡ true → a.line ≡ b.line
same_line a b h = eqb-true a.line b.line (and_parts (nat_eq a.line b.line) (same_flag a.failed b.failed) h).0

-- ---- where a line leads that only jumps

abbrev Way : Type 0
Way = Formula ℕ × Point

-- one of some ways leads to a point
abbrev pub leads : List (Formula ℕ × Point) → (ℕ → Bool) → Point → Bool
leads ways old x = list_any (λ (w : Formula ℕ × Point). value_at old w.0 && same_point x w.1) ways

pub way_to : (ways : List (Formula ℕ × Point)) (old : ℕ → Bool) (x : Point) → leads ways old x ≡ true
    → (k : ℕ) × (w : Formula ℕ × Point) × (slice_get ways k ≡ Some w) × (x.line ≡ w.1.line)
way_to [] old x h = cc
way_to (w ∷ ws) old x h = by_test (value_at old w.0 && same_point x w.1) refl h (way_to ws old x)
  where
    by_test : (b : Bool) → (value_at old w.0 && same_point x w.1) ≡ b → (b || leads ws old x) ≡ true
        → (leads ws old x ≡ true → (k : ℕ) × (v : Formula ℕ × Point) × (slice_get ws k ≡ Some v) × (x.line ≡ v.1.line))
        → (k : ℕ) × (v : Formula ℕ × Point) × (slice_get (w ∷ ws) k ≡ Some v) × (x.line ≡ v.1.line)
    by_test true t h more = (0, w, refl, same_line x w.1 (and_parts (value_at old w.0) (same_point x w.1) t).1)
    by_test false t h more = let there = more h in (suc there.0, there.1, there.2, there.3)

-- tests that each way repeats
one_more : (v g s r l : Bool) → ((v && (g && (s && r))) || (g && (l && r))) ≡ (g && (((v && s) || l) && r))
one_more true false s r l = refl
one_more false false s r l = refl
one_more false true s r l = refl
one_more true true false r l = refl
one_more true true true true l = refl
one_more true true true false true = refl
one_more true true true false false = refl

pub ways_apart : (ways : List (Formula ℕ × Point)) (old : ℕ → Bool) (x : Point) (g r : Bool)
    → list_any (λ (w : Formula ℕ × Point). value_at old w.0 && (g && (same_point x w.1 && r))) ways ≡ (g && (leads ways old x && r))
ways_apart [] old x true r = refl
ways_apart [] old x false r = refl
ways_apart (w ∷ ws) old x g r =
    ap (λ b. (value_at old w.0 && (g && (same_point x w.1 && r))) || b) (ways_apart ws old x g r)
    ∙ one_more (value_at old w.0) g (same_point x w.1) r (leads ws old x)

pub ways_nowhere : (ways : List (Formula ℕ × Point)) (old : ℕ → Bool) (g : Bool) → list_any (λ (w : Formula ℕ × Point). value_at old w.0 && (g && false)) ways ≡ false
ways_nowhere [] old g = refl
ways_nowhere (w ∷ ws) old g = ap (λ b. (value_at old w.0 && (g && false)) || b) (ways_nowhere ws old g) ∙ by_both (value_at old w.0) g
  where
    by_both : (v t : Bool) → ((v && (t && false)) || false) ≡ false
    by_both true true = refl
    by_both true false = refl
    by_both false t = refl

jumps_same : {a b : List (Formula ℕ × Point)} → Jumps a ≡ Jumps b → a ≡ b
jumps_same e = cc

same_either_way : (a b : ℕ) → nat_eq a b ≡ nat_eq b a
same_either_way a b = both_ways (nat_eq a b) (nat_eq b a) (λ h. eq-eqb b a (sym (eqb-true a b h))) (λ h. eq-eqb a b (sym (eqb-true b a h)))

is_later : (o : Option ℕ) → is_some (option_map (λ k. suc k) o) ≡ is_some o
is_later None = refl
is_later (Some k) = refl

module _ (x : Point) (old : ℕ → Bool) where
  one_of : (lines : List ℕ) → leads (map always lines) old x ≡ (not x.failed && is_some (place_in lines x.line))
  one_of [] = by_failed x.failed
    where
      by_failed : (b : Bool) → false ≡ (not b && false)
      by_failed true = refl
      by_failed false = refl
  one_of (n ∷ ns) =
      ap₂ (λ a b. (a && same_flag x.failed false) || b) (same_either_way x.line n) (one_of ns)
      ∙ by_both x.failed (nat_eq n x.line)
    where
      by_both : (f t : Bool) → ((t && same_flag f false) || (not f && is_some (place_in ns x.line)))
          ≡ (not f && is_some (if t then Some 0 else option_map (λ k. suc k) (place_in ns x.line)))
      by_both true true = refl
      by_both true false = refl
      by_both false true = refl
      by_both false false = sym (is_later (place_in ns x.line))

  one_way : (v : Bool) (there : Point) → ((v && same_point x there) || false) ≡ is_point (if v then Some there else None) x
  one_way true there = or_none (same_point x there)
  one_way false there = refl

  two_ways : (v : Bool) (there elsewhere : Point)
      → ((v && same_point x there) || ((not v && same_point x elsewhere) || false)) ≡ same_point x (if v then there else elsewhere)
  two_ways true there elsewhere = or_none (same_point x there)
  two_ways false there elsewhere = or_none (same_point x elsewhere)

  both_ways_lead : (there elsewhere : Point) → (same_point x there || (same_point x elsewhere || false)) ≡ (same_point x there || same_point x elsewhere)
  both_ways_lead there elsewhere = ap (λ b. same_point x there || b) (or_none (same_point x elsewhere))

  module _ (i : Instruction) where
    abbrev next : Point
    next = at_line i.next

    abbrev other : Point
    other = at_line i.other

    -- other ways that are the same
    by_ways : (ways others : List (Formula ℕ × Point)) → Jumps ways ≡ Jumps others → leads others old x ≡ leads ways old x
    by_ways ways others e = ap (λ ws. leads ws old x) (sym (jumps_same e))

    -- what the ways of a line lead to is where the line may lead
    pub ways_lead : (r : ℕ) (s : Statement) (ways : List (Formula ℕ × Point)) → action_of r i s ≡ Jumps ways → leads ways old x ≡ may_lead i old x s
    ways_lead r Skip ways e = by_ways (always i.next ∷ []) ways e ∙ or_none (same_point x next)
    ways_lead r EndIf ways e = by_ways (always i.next ∷ []) ways e ∙ or_none (same_point x next)
    ways_lead r (Assign targets values) ways e = cc
    ways_lead r (Goto lines) ways e = by_ways (map always lines) ways e ∙ one_of lines
    ways_lead r (Assume f) ways e = by_ways ((f, next) ∷ []) ways e ∙ one_way (value_at old f) next
    ways_lead r (Assert f) ways e =
        let failure : Point = record { line = i.line; failed = true } in
        by_ways ((f, next) ∷ (Opposite f, failure) ∷ []) ways e ∙ two_ways (value_at old f) next failure
    ways_lead r (Call targets callee arguments) ways e = cc
    ways_lead r (Return values) ways e = cc
    ways_lead r (If Star) ways e = by_ways ((Constant true, next) ∷ (Constant true, other) ∷ []) ways e ∙ both_ways_lead next other
    ways_lead r (If (Is f)) ways e = by_ways ((f, next) ∷ (Opposite f, other) ∷ []) ways e ∙ two_ways (value_at old f) next other
    ways_lead r Else ways e = by_ways (always i.other ∷ []) ways e ∙ or_none (same_point x other)
    ways_lead r (While Star) ways e = by_ways ((Constant true, next) ∷ (Constant true, other) ∷ []) ways e ∙ both_ways_lead next other
    ways_lead r (While (Is f)) ways e = by_ways ((f, next) ∷ (Opposite f, other) ∷ []) ways e ∙ two_ways (value_at old f) next other
    ways_lead r EndWhile ways e = by_ways (always i.other ∷ []) ways e ∙ or_none (same_point x other)
    ways_lead r EndProc ways e = cc
