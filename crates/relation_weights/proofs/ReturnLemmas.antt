-- Return maps as moves of the callee's bits, after which the caller's stay.
use Rattle.std.proofs.Common.{◌≡◌, ℕ, suc, ◌+◌, ◌<◌, ◌↔◌, Bool, true, false, not, ◌&&◌, ◌||◌, List, [], ◌∷◌, ◌++◌, length, refl, sym, ap, ap₂, ◌∙◌, subst, inl, inr, arith}
use Rattle.std.specs.Prelude.{IsTrue, nat_eq, nat_lt, slice_index_or}
use Rattle.std.proofs.lemmas.Bool.{cases_Bool, cases_eq, cases_lt, eqb-true, eq-eqb, false_from_ne_true, lt-ltb, le-ltb, and_parts, and_from}
use Rattle.diagram_ops.specs.Quantifying.{is_listed}
use Rattle.relation_laws.specs.Building.{Parts}
use Rattle.relation_laws.specs.States.{same_bit, each_below}
use Rattle.relation_laws.specs.Relations.{Pairs, leads, relation_of, returned}
use Rattle.relation_laws.proofs.CallerLemmas.{same_truth, agree_same, same_bit_is, same_bit_itself, pairs_same, each_same, each_gives, each_from, some_gives, some_of, FitsIn, ReadsSource, leads_reads}
use Rattle.relation_weights.specs.declared.rel_map.Slot.{Slot}
use Rattle.relation_weights.specs.declared.rel_map.Slot.TheVariants.{Caller, Callee}
use Rattle.relation_weights.specs.Actions.{frame_pairs}
use Rattle.relation_weights.specs.Relations.{slot_bit, source_of}
use Rattle.relation_weights.specs.Moves.{moves_bit, keeps_bit, moved, kept}
use Rattle.relation_weights.specs.private.Moves.{far_bit, is_caller, is_own, ListsOthers}

abbrev slot : List Slot → ℕ → Slot
slot slots v = slice_index_or slots v Caller

same_bit_comm : (a b : Bool) → same_bit a b ≡ same_bit b a
same_bit_comm true true = refl
same_bit_comm true false = refl
same_bit_comm false true = refl
same_bit_comm false false = refl

and_true : (a : Bool) → (a && true) ≡ a
and_true true = refl
and_true false = refl

and_false : (a : Bool) → (a && false) ≡ false
and_false true = refl
and_false false = refl

or_false : (a : Bool) → (a || false) ≡ a
or_false true = refl
or_false false = refl

or_true : (a : Bool) → (a || true) ≡ true
or_true true = refl
or_true false = refl

or_assoc : (a b c : Bool) → ((a || b) || c) ≡ (a || (b || c))
or_assoc true b c = refl
or_assoc false b c = refl

and_swap : (a b c : Bool) → ((a && b) && c) ≡ (a && (c && b))
and_swap true true c = sym (and_true c)
and_swap true false c = sym (and_false c)
and_swap false b c = refl

below_next : (k i : ℕ) → (k ≡ i → ⊥) → nat_lt k i ≡ nat_lt k (i + 1)
below_next k i apart = elim (cases_lt k i) [
  | inl less ↦ lt-ltb k i less ∙ sym (lt-ltb k (i + 1) (omega arith))
  | inr past ↦ le-ltb k i past ∙ sym (le-ltb k (i + 1) (omega arith))
]

-- ---- lists of numbers

pub listed_push : (list : List ℕ) (v k : ℕ) → is_listed (list ++ v ∷ []) k ≡ (is_listed list k || nat_eq v k)
listed_push [] v k = or_false (nat_eq v k)
listed_push (u ∷ list) v k = ap (λ b. nat_eq u k || b) (listed_push list v k) ∙ sym (or_assoc (nat_eq u k) (is_listed list k) (nat_eq v k))

-- the numbers below i that pass are listed
abbrev pub Lists : (ℕ → Bool) → ℕ → List ℕ → Type 0
Lists test i list = (k : ℕ) → is_listed list k ≡ (nat_lt k i && test k)

pub lists_none : (test : ℕ → Bool) (list : List ℕ) → list ≡ [] → Lists test 0 list
lists_none test list e k = ap (λ l. is_listed l k) e ∙ ap (λ b. b && test k) (sym (le-ltb k 0 (omega arith)))

pub lists_more : (test : ℕ → Bool) (i : ℕ) (list more : List ℕ) → Lists test i list → test i ≡ true → more ≡ list ++ i ∷ [] → Lists test (i + 1) more
lists_more test i list more all passes e k =
    ap (λ l. is_listed l k) e ∙ listed_push list i k ∙ ap (λ b. b || nat_eq i k) (all k)
    ∙ elim (cases_eq i k) [
      | inl is ↦
          ap (λ b. (nat_lt k i && test k) || b) (eq-eqb i k is) ∙ or_true (nat_lt k i && test k)
          ∙ sym (and_from (nat_lt k (i + 1)) (test k) (lt-ltb k (i + 1) (omega arith)) (ap test (sym is) ∙ passes))
      | inr apart ↦
          ap (λ b. (nat_lt k i && test k) || b) (false_from_ne_true (nat_eq i k) (λ f. apart (eqb-true i k f))) ∙ or_false (nat_lt k i && test k)
          ∙ ap (λ b. b && test k) (below_next k i (λ f. apart (sym f)))
    ]

pub lists_same : (test : ℕ → Bool) (i : ℕ) (list : List ℕ) → Lists test i list → test i ≡ false → Lists test (i + 1) list
lists_same test i list all fails k = all k ∙ elim (cases_eq k i) [
  | inl is ↦ ap (λ b. nat_lt k i && b) (ap test is ∙ fails) ∙ and_false (nat_lt k i) ∙ sym (and_false (nat_lt k (i + 1))) ∙ ap (λ b. nat_lt k (i + 1) && b) (sym (ap test is ∙ fails))
  | inr apart ↦ ap (λ b. b && test k) (below_next k i apart)
]

pub lists_whole : (test : ℕ → Bool) (n : ℕ) (list : List ℕ) → Lists test n list → (k : ℕ) → k < n → is_listed list k ≡ test k
lists_whole test n list all k below = all k ∙ ap (λ b. b && test k) (lt-ltb k n below)

-- ---- moves

pub far_next : (f : Bool) (k : ℕ) (test : ℕ → Bool) → ((f && each_below k test) && test k) ≡ (f && each_below (k + 1) test)
far_next f k test =
    let P : ℕ → Type 0 = λ i. ((f && each_below k test) && test k) ≡ (f && each_below i test) in
    let is : suc k ≡ k + 1 = omega arith in
    subst P is (and_swap f (each_below k test) (test k))

own_bit : (v : ℕ) (s : Slot) (x y : ℕ → Bool) → ((not (is_own v s) || same_bit (x v) (y v)) && far_bit v s x (y v)) ≡ moves_bit s x (y v)
own_bit v Caller x y = refl
own_bit v (Callee u) x y = elim (cases_Bool (nat_eq u v)) [
  | inl is ↦
      ap (λ b. (not b || same_bit (x v) (y v)) && (b || same_bit (y v) (x u))) is
      ∙ and_true (same_bit (x v) (y v)) ∙ same_bit_comm (x v) (y v) ∙ ap (λ i. same_bit (y v) (x i)) (sym (eqb-true u v is))
  | inr apart ↦ ap (λ b. (not b || same_bit (x v) (y v)) && (b || same_bit (y v) (x u))) apart
]

each_both : (n : ℕ) (p q : ℕ → Bool) → (each_below n p && each_below n q) ≡ each_below n (λ k. p k && q k)
each_both n p q = same_truth (each_below n p && each_below n q) (each_below n (λ k. p k && q k))
    (λ h. let parts = and_parts (each_below n p) (each_below n q) h in each_from n (λ k. p k && q k) (λ k b. and_from (p k) (q k) (each_gives n p parts.0 k b) (each_gives n q parts.1 k b)))
    (λ h.
    let each = each_gives n (λ k. p k && q k) h in
    and_from (each_below n p) (each_below n q) (each_from n p (λ k b. (and_parts (p k) (q k) (each k b)).0)) (each_from n q (λ k b. (and_parts (p k) (q k) (each k b)).1)))

pub moved_is : (n : ℕ) (slots : List Slot) (freed : List ℕ) → ListsOthers is_own n slots freed → (x y : ℕ → Bool)
    → (frame_pairs n freed x y && each_below n (λ v. far_bit v (slot slots v) x (y v))) ≡ moved n slots x y
moved_is n slots freed listed x y =
    each_both n (λ k. is_listed freed k || same_bit (x k) (y k)) (λ v. far_bit v (slot slots v) x (y v))
    ∙ each_same n (λ k. (is_listed freed k || same_bit (x k) (y k)) && far_bit k (slot slots k) x (y k)) (λ v. moves_bit (slot slots v) x (y v)) (λ k below.
    ap (λ b. (b || same_bit (x k) (y k)) && far_bit k (slot slots k) x (y k)) (listed k below) ∙ own_bit k (slot slots k) x y)

kept_bit : (s : Slot) (a b : Bool) → (not (is_caller s) || same_bit a b) ≡ keeps_bit s a b
kept_bit Caller a b = refl
kept_bit (Callee u) a b = refl

pub kept_is : (n : ℕ) (slots : List Slot) (freed : List ℕ) → ListsOthers (λ k. is_caller) n slots freed → (x y : ℕ → Bool) → frame_pairs n freed x y ≡ kept n slots x y
kept_is n slots freed listed x y =
    each_same n (λ k. is_listed freed k || same_bit (x k) (y k)) (λ k. keeps_bit (slot slots k) (x k) (y k)) (λ k below.
    ap (λ b. b || same_bit (x k) (y k)) (listed k below) ∙ kept_bit (slot slots k) (x k) (y k))

-- ---- both parts

both_bits : (s : Slot) (v : ℕ) (x z y : ℕ → Bool) → (moves_bit s z (y v) && keeps_bit s (x v) (y v)) ≡ same_bit (y v) (slot_bit s v x z)
both_bits Caller v x z y = same_bit_comm (x v) (y v)
both_bits (Callee u) v x z y = and_true (same_bit (y v) (z u))

parts_are_slots : (n : ℕ) (slots : List Slot) (x z y : ℕ → Bool) → (moved n slots z y && kept n slots x y) ≡ each_below n (λ v. same_bit (y v) (source_of slots v x z))
parts_are_slots n slots x z y =
    each_both n (λ v. moves_bit (slot slots v) z (y v)) (λ v. keeps_bit (slot slots v) (x v) (y v))
    ∙ each_same n (λ v. moves_bit (slot slots v) z (y v) && keeps_bit (slot slots v) (x v) (y v)) (λ v. same_bit (y v) (source_of slots v x z)) (λ k below. both_bits (slot slots k) k x z y)

-- the composition with the moves, where the caller's bits stay
pub returned_is : (n : ℕ) (slots : List Slot) → ReadsSource n (source_of slots) → (w : Parts) → FitsIn n w
    → (p : Pairs) → ((x z : ℕ → Bool) → p x z ≡ leads w x z) → (m : Pairs) → ((z y : ℕ → Bool) → m z y ≡ moved n slots z y) → (l k : Bool) (x y : ℕ → Bool)
    → (IsTrue l ↔ ((z : ℕ → Bool) × IsTrue (p x z) × IsTrue (m z y))) → k ≡ kept n slots x y → (l && k) ≡ returned n (source_of slots) (leads w) x y
returned_is n slots reads w fit p pw m ms l k x y led stays = same_truth (l && k) (returned n (source_of slots) (leads w) x y)
    (λ h.
    let parts = and_parts l k h in
    let z = led.0 parts.0 in
    some_of n (λ u. leads w x u && each_below n (λ v. same_bit (y v) (source_of slots v x u)))
    (λ u u' agree. ap₂ (λ s t. s && t) (leads_reads n w fit x u x u' (agree_same n x) agree)
    (each_same n (λ v. same_bit (y v) (source_of slots v x u)) (λ v. same_bit (y v) (source_of slots v x u')) (λ v below. ap (same_bit (y v)) (reads v below x u x u' (agree_same n x) agree))))
    z.0
    (and_from (leads w x z.0) (each_below n (λ v. same_bit (y v) (source_of slots v x z.0))) (sym (pw x z.0) ∙ z.1)
    (sym (parts_are_slots n slots x z.0 y) ∙ and_from (moved n slots z.0 y) (kept n slots x y) (sym (ms z.0 y) ∙ z.2) (sym stays ∙ parts.1))))
    (λ h.
    let s = some_gives n 0 (λ u. leads w x u && each_below n (λ v. same_bit (y v) (source_of slots v x u))) h in
    let parts = and_parts (leads w x s.0) (each_below n (λ v. same_bit (y v) (source_of slots v x s.0))) s.1 in
    let two = and_parts (moved n slots s.0 y) (kept n slots x y) (parts_are_slots n slots x s.0 y ∙ parts.1) in
    and_from l k (led.1 (s.0, pw x s.0 ∙ parts.0, ms s.0 y ∙ two.0)) (stays ∙ two.1))

-- ---- where each bit is the callee's own

own_slot : (k : ℕ) (s : Slot) → not (is_own k s) ≡ false → (x z : ℕ → Bool) → slot_bit s k x z ≡ z k
own_slot k Caller e x z = cc
own_slot k (Callee u) e x z = elim (cases_Bool (nat_eq u k)) [
  | inl is ↦ ap z (eqb-true u k is)
  | inr apart ↦ let f : false ≡ true = sym e ∙ ap not apart in cc
]

returned_own : (n : ℕ) (slots : List Slot) → ReadsSource n (source_of slots) → ListsOthers is_own n slots [] → (w : Parts) → FitsIn n w → (x y : ℕ → Bool)
    → returned n (source_of slots) (leads w) x y ≡ leads w x y
returned_own n slots reads own w fit x y =
    let itself : (k : ℕ) → k < n → (z : ℕ → Bool) → source_of slots k x z ≡ z k = λ k below z. own_slot k (slot slots k) (sym (own k below)) x z in
    same_truth (returned n (source_of slots) (leads w) x y) (leads w x y)
    (λ h.
    let s = some_gives n 0 (λ z. leads w x z && each_below n (λ v. same_bit (y v) (source_of slots v x z))) h in
    let parts = and_parts (leads w x s.0) (each_below n (λ v. same_bit (y v) (source_of slots v x s.0))) s.1 in
    leads_reads n w fit x y x s.0 (agree_same n x) (λ k below.
    same_bit_is (y k) (source_of slots k x s.0) (each_gives n (λ v. same_bit (y v) (source_of slots v x s.0)) parts.1 k below) ∙ itself k below s.0)
    ∙ parts.0)
    (λ h.
    some_of n (λ u. leads w x u && each_below n (λ v. same_bit (y v) (source_of slots v x u)))
    (λ u u' agree. ap₂ (λ s t. s && t) (leads_reads n w fit x u x u' (agree_same n x) agree)
    (each_same n (λ v. same_bit (y v) (source_of slots v x u)) (λ v. same_bit (y v) (source_of slots v x u')) (λ v below. ap (same_bit (y v)) (reads v below x u x u' (agree_same n x) agree))))
    y
    (and_from (leads w x y) (each_below n (λ v. same_bit (y v) (source_of slots v x y))) h
    (each_from n (λ v. same_bit (y v) (source_of slots v x y)) (λ k below.
    let P : Bool → Type 0 = λ b. IsTrue (same_bit (y k) b) in subst P (sym (itself k below y)) (same_bit_itself (y k))))))

pub unchanged : (n : ℕ) (slots : List Slot) → ReadsSource n (source_of slots) → (freed : List ℕ) → ListsOthers is_own n slots freed → length freed ≡ 0 → (w : Parts) → FitsIn n w
    → w ≡ relation_of n (returned n (source_of slots) (leads w))
unchanged n slots reads [] own none w fit =
    sym fit ∙ pairs_same n (leads w) (returned n (source_of slots) (leads w)) (λ x y. sym (returned_own n slots reads own w fit x y))
unchanged n slots reads (v ∷ freed) own none w fit = absurd (omega (arith, none))
