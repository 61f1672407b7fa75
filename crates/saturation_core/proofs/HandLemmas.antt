-- Counting hands, and the bits of their seats.
use Rattle.std.proofs.Common.{◌≡◌, ℕ, suc, zero, ◌+◌, ◌-◌, ◌*◌, ◌/◌, ◌^◌, ◌<◌, ◌≤◌, List, [], ◌∷◌, length, get_or, drop, set, refl, sym, ap, ◌∙◌, arith}
use Rattle.std.specs.Prelude.{Option, None, Some, is_some, cond, option_map, MatchOption, IfSome}
use Rattle.std.proofs.lemmas.List.{at_drop_more, length-drop, length-set}
use Rattle.std.proofs.lemmas.Option.{same_Some}
use Rattle.std.proofs.Math.Nat.{pow-succ'}
use Rattle.std.proofs.Math.Pow.{pow_mono}
use Rattle.std.specs.Int.{bit_at}
use Rattle.std.proofs.lemmas.Nat.Bits.{bit_at_lowest, bit_at-suc, bit_at-zero}
use Rattle.weighted_automata.specs.declared.place.Place.{Place}
use Rattle.weighted_automata.specs.declared.transitions.Entry.{Entry}
use Rattle.witness_graph.specs.declared.node.Node.{Node}
use Rattle.saturation_laws.specs.declared.event.Event.{Event}
use Rattle.saturation_laws.specs.declared.holding.Holding.{Holding}
use Rattle.saturation_laws.specs.Books.{BookValue}
use Rattle.saturation_laws.specs.States.{hand_at}
use Rattle.saturation_core.specs.Seats.{hands_out, seat_bits}

-- the lowest bit, and the others
lowest : (b n : ℕ) → b ≤ 1 → bit_at (b + 2 * n) 0 ≡ b
lowest b n small = bit_at_lowest (b + 2 * n) ∙ omega (arith, small)

higher : (b n k : ℕ) → b ≤ 1 → bit_at (b + 2 * n) (suc k) ≡ bit_at n k
higher b n k small = let half : (b + 2 * n) / 2 ≡ n = omega (arith, small) in bit_at-suc (b + 2 * n) k ∙ ap (λ m. bit_at m k) half

module _ {S W Map : Type 0} where
  pub hands_out_le : (hs : List (Option (Holding S W Map))) → hands_out hs ≤ length hs
  hands_out_le [] = omega arith
  hands_out_le (None ∷ hs) = omega (arith, hands_out_le hs)
  hands_out_le (Some h ∷ hs) = omega (arith, hands_out_le hs)

  -- one fewer, where a hand goes
  pub hands_out-freed : (hs : List (Option (Holding S W Map))) (k : ℕ) (h : Holding S W Map) → hand_at k hs ≡ Some h → hands_out hs ≡ 1 + hands_out (set hs k None)
  hands_out-freed [] k h e = cc
  hands_out-freed (None ∷ hs) zero h e = cc
  hands_out-freed (Some g ∷ hs) zero h e = omega arith
  hands_out-freed (g ∷ hs) (suc k) h e = omega (arith, hands_out-freed hs k h e)

  -- a seat with a hand is one of the seats
  pub seat_within : (hs : List (Option (Holding S W Map))) (k : ℕ) (h : Holding S W Map) → hand_at k hs ≡ Some h → k < length hs
  seat_within [] k h e = cc
  seat_within (g ∷ hs) zero h e = omega arith
  seat_within (g ∷ hs) (suc k) h e = omega (arith, seat_within hs k h e)

  -- at most one more, whatever a seat gets
  set_le : (hs : List (Option (Holding S W Map))) (k : ℕ) (o : Option (Holding S W Map)) → hands_out (set hs k o) ≤ 1 + hands_out hs
  set_le [] k o = omega arith
  set_le (g ∷ hs) zero None = omega arith
  set_le (g ∷ hs) zero (Some h) = omega arith
  set_le (g ∷ hs) (suc k) o = omega (arith, set_le hs k o)

  pub hands_out-set : (hs new : List (Option (Holding S W Map))) (k : ℕ) (o : Option (Holding S W Map)) → new ≡ set hs k o → hands_out new ≤ 1 + hands_out hs
  hands_out-set hs new k o is = let e = ap hands_out is in omega (arith, e, set_le hs k o)

  pub hands_out-seats : (hs new : List (Option (Holding S W Map))) (k : ℕ) (o : Option (Holding S W Map)) → new ≡ set hs k o → hands_out new ≤ length hs
  hands_out-seats hs new k o is = let e = ap length is in omega (arith, e, length-set hs k o, hands_out_le new)

  pub seat_bits_below : (hs : List (Option (Holding S W Map))) → seat_bits hs < 2 ^ length hs
  seat_bits_below [] = omega arith
  seat_bits_below (None ∷ hs) = let e : 2 ^ suc (length hs) ≡ 2 * 2 ^ length hs = pow-succ' 2 (length hs) in omega (arith, seat_bits_below hs, e)
  seat_bits_below (Some h ∷ hs) = let e : 2 ^ suc (length hs) ≡ 2 * 2 ^ length hs = pow-succ' 2 (length hs) in omega (arith, seat_bits_below hs, e)

  -- the bits of up to 64 seats fit 64 bits
  pub seat_bits_fit : (hs : List (Option (Holding S W Map))) (n : ℕ) → length hs ≤ n → seat_bits hs < 2 ^ n
  seat_bits_fit hs n short = let m : 2 ^ length hs ≤ 2 ^ n = pow_mono short in omega (arith, seat_bits_below hs)

  -- each bit says whether its seat has a hand
  pub bits_are : (hs : List (Option (Holding S W Map))) (k : ℕ) → bit_at (seat_bits hs) k ≡ cond (is_some (hand_at k hs)) 1 0
  bits_are [] k = bit_at-zero k
  bits_are (None ∷ hs) zero = lowest 0 (seat_bits hs) (omega arith)
  bits_are (Some h ∷ hs) zero = lowest 1 (seat_bits hs) (omega arith)
  bits_are (None ∷ hs) (suc k) = higher 0 (seat_bits hs) k (omega arith) ∙ bits_are hs k
  bits_are (Some h ∷ hs) (suc k) = higher 1 (seat_bits hs) k (omega arith) ∙ bits_are hs k

  pub bits_below : (hs : List (Option (Holding S W Map))) (i bits : ℕ) → length hs ≤ 64 → 0 < i → bits ≡ seat_bits (drop i hs) → bits < 2 ^ 63
  bits_below hs i bits short some is =
      let few = seat_bits_fit (drop i hs) 63 (omega (arith, length-drop i hs)) in omega (arith, few)

  pub bit_small : (d : Option (Holding S W Map)) (b : ℕ) → b ≡ cond (is_some d) 1 0 → b ≤ 1
  bit_small None b e = omega (arith, e)
  bit_small (Some h) b e = omega (arith, e)

  -- one seat more, from the last to the first
  pub seat_bits_more : (hs : List (Option (Holding S W Map))) (i : ℕ) (d : Option (Holding S W Map)) → i < length hs
      → cond (is_some (get_or hs i d)) 1 0 + 2 * seat_bits (drop (i + 1) hs) ≡ seat_bits (drop i hs)
  seat_bits_more hs i d within = sym (at_drop_more seat_bits hs i d within)

  pub bits_step : (hs : List (Option (Holding S W Map))) (i bits b : ℕ) (d : Option (Holding S W Map)) → 0 < i → i ≤ length hs → bits ≡ seat_bits (drop i hs)
      → d ≡ get_or hs (i - 1) d → b ≡ cond (is_some d) 1 0 → 2 * bits + b ≡ seat_bits (drop (i - 1) hs)
  bits_step hs zero bits b d some within is read bit = absurd (omega (arith, some))
  bits_step hs (suc k) bits b d some within is read bit =
      let at : suc k - 1 ≡ k = omega arith in
      let here : d ≡ get_or hs k d = read ∙ ap (λ n. get_or hs n d) at in
      let next : k + 1 ≡ suc k = omega arith in
      let one : cond (is_some (get_or hs k d)) 1 0 + 2 * seat_bits (drop (k + 1) hs) ≡ seat_bits (drop k hs) = seat_bits_more hs k d (omega (arith, within)) in
      let bit' : b ≡ cond (is_some (get_or hs k d)) 1 0 = bit ∙ ap (λ o. cond (is_some o) 1 0) here in
      let is' : bits ≡ seat_bits (drop (k + 1) hs) = is ∙ ap (λ n. seat_bits (drop n hs)) (sym next) in
      let all : 2 * bits + b ≡ seat_bits (drop k hs) = omega (arith, one, bit', is') in
      all ∙ ap (λ n. seat_bits (drop n hs)) (sym at)

  -- the hand whose place was read
  pub hand_of : (o : Option (Holding S W Map)) (x : Place) → option_map (λ h. h.place) o ≡ Some x → (h : Holding S W Map) × (o ≡ Some h)
  hand_of None x e = cc
  hand_of (Some h) x e = (h, refl)

  pub place_read : (hs : List (Option (Holding S W Map))) (k : ℕ) (x : Place) → option_map (λ h. h.place) (hand_at k hs) ≡ Some x → (h : Holding S W Map) × (hand_at k hs ≡ Some h) × (h.place ≡ x)
  place_read hs k x e = let h = hand_of (hand_at k hs) x e in (h.0, h.1, same_Some h.0.place x (sym (ap (option_map (λ (i : Holding S W Map). i.place)) h.1) ∙ e))

  -- one fewer, where a hand goes whose place was read
  pub hands_out-read : (hs : List (Option (Holding S W Map))) (k : ℕ) (x : Place) → option_map (λ h. h.place) (hand_at k hs) ≡ Some x → hands_out hs ≡ 1 + hands_out (set hs k None)
  hands_out-read hs k x e = let h = hand_of (hand_at k hs) x e in hands_out-freed hs k h.0 h.1

  pub seat_read : (hs : List (Option (Holding S W Map))) (k : ℕ) (x : Place) → option_map (λ h. h.place) (hand_at k hs) ≡ Some x → k < length hs
  seat_read hs k x e = let h = hand_of (hand_at k hs) x e in seat_within hs k h.0 h.1

-- a book with these transitions, nodes, queue, hands and journal
abbrev pub moved : {S W Map D : Type 0} → BookValue S W Map D → List (Entry S W Map) → List Node → List Place → List (Option (Holding S W Map)) → List Event → BookValue S W Map D
moved b ts ns queue hands journal = record b { state = record { transitions = ts; nodes = ns; queue = queue; hands = hands }; journal = journal }

-- a queue with a front: what is taken is that, and the rest is left
pub popped : {X Y : Type 0} (f : Y → X) (o : Option Y) (old new : List X) (x : X) (P : Type 0) → old ≡ x ∷ drop 1 old
    → MatchOption o (old ≡ []) (λ y. old ≡ f y ∷ new) → IfSome o (λ _. P) → (old ≡ x ∷ new) × P
popped f None old new x P front none p = let g : [] ≡ x ∷ drop 1 old = sym none ∙ front in cc
popped f (Some y) old new x P front is p = (front ∙ ap (λ zs. x ∷ drop 1 zs) is, p)
