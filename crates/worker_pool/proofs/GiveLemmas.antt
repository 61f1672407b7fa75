-- How often workers give back, counted by seat.
use Rattle.std.proofs.Common.{◌≡◌, ◌≢◌, ℕ, suc, zero, ◌+◌, ◌<◌, ◌≤◌, inl, inr, List, [], ◌∷◌, ◌++◌, refl, sym, ap₂, subst, arith}
use Rattle.std.specs.Prelude.{Option, Some, None}
use Rattle.std.proofs.lemmas.Bool.{cases_eq}
use Rattle.semiring_laws.specs.Semiring.{Operations, IsSemiring}
use Rattle.weighted_automata.specs.declared.place.Place.{Place}
use Rattle.saturation_laws.specs.declared.event.Event.{Event}
use Rattle.saturation_laws.specs.declared.event.Event.TheVariants.{Take, Settle, GiveBack}
use Rattle.saturation_laws.specs.States.{seat_of}
use Rattle.saturation_laws.specs.Bound.{gives}
use Rattle.saturation_laws.specs.Books.{BookValue, IsBook}
use Rattle.saturation_laws.specs.Ways.{Way, IsLawful}
use Rattle.saturation_laws.proofs.CallerLemmas.{book_takes}
use Rattle.seat_lock.specs.Queue.{Each, of_pass}
use Rattle.worker_pool.specs.Events.{turns_by, given_by}
use Rattle.worker_pool.specs.Errands.{IsDrivenBy, IsWorkedBySeats, AreTakenFew}
use Rattle.worker_pool.proofs.ReplayLemmas.{of_pass_case}

-- the first event, and the rest
gives_first : (e : Event) (es : List Event) → gives (e ∷ es) ≡ gives (e ∷ []) + gives es
gives_first (Take k x) es = let e : gives es ≡ 0 + gives es = omega arith in e
gives_first (Settle k) es = let e : gives es ≡ 0 + gives es = omega arith in e
gives_first (GiveBack k) es = let e : 1 + gives es ≡ 1 + 0 + gives es = omega arith in e

-- those of the seats below n
abbrev by_seats : ℕ → List Event → ℕ
by_seats zero es = 0
by_seats (suc n) es = gives (of_pass seat_of n es) + by_seats n es

own_first : (n : ℕ) (e : Event) (es : List Event) → seat_of e ≡ n → gives (of_pass seat_of n (e ∷ es)) ≡ gives (e ∷ []) + gives (of_pass seat_of n es)
own_first n e es own =
    of_pass_case (λ fs. gives fs ≡ gives (e ∷ []) + gives (of_pass seat_of n es)) n e es (λ _. gives_first e (of_pass seat_of n es)) (λ other. absurd (other own))

others_first : (n : ℕ) (e : Event) (es : List Event) → seat_of e ≢ n → gives (of_pass seat_of n (e ∷ es)) ≡ gives (of_pass seat_of n es)
others_first n e es other =
    of_pass_case (λ fs. gives fs ≡ gives (of_pass seat_of n es)) n e es (λ own. absurd (other own)) (λ _. refl)

past_seats : (n : ℕ) (e : Event) (es : List Event) → n ≤ seat_of e → by_seats n (e ∷ es) ≡ by_seats n es
past_seats zero e es past = refl
past_seats (suc n) e es past =
    ap₂ (λ a b. a + b) (others_first n e es (λ is. omega (arith, is, past))) (past_seats n e es (omega (arith, past)))

within_seats : (n : ℕ) (e : Event) (es : List Event) → seat_of e < n → by_seats n (e ∷ es) ≡ gives (e ∷ []) + by_seats n es
within_seats zero e es within = absurd (omega (arith, within))
within_seats (suc n) e es within = elim (cases_eq (seat_of e) n) [
  | inl own ↦
      let one = own_first n e es own in
      let rest = past_seats n e es (omega (arith, own)) in
      let sum : gives (of_pass seat_of n (e ∷ es)) + by_seats n (e ∷ es) ≡ gives (e ∷ []) + (gives (of_pass seat_of n es) + by_seats n es) = omega (arith, one, rest) in
      sum
  | inr other ↦
      let one = others_first n e es other in
      let rest = within_seats n e es (omega (arith, other, within)) in
      let sum : gives (of_pass seat_of n (e ∷ es)) + by_seats n (e ∷ es) ≡ gives (e ∷ []) + (gives (of_pass seat_of n es) + by_seats n es) = omega (arith, one, rest) in
      sum
]

none_by_seats : (n : ℕ) → by_seats n [] ≡ 0
none_by_seats zero = refl
none_by_seats (suc n) = let rest = none_by_seats n in let sum : 0 + by_seats n [] ≡ 0 = omega (arith, rest) in sum

all_by_seats : (n : ℕ) (log : List Event) → Each (λ e. seat_of e < n) log → gives log ≡ by_seats n log
all_by_seats n [] within = sym (none_by_seats n)
all_by_seats n (e ∷ es) within =
    let rest = all_by_seats n es within.1 in
    let one = within_seats n e es within.0 in
    let first = gives_first e es in
    omega (arith, rest, one, first)

-- a worker gives back at most once
turns_give : (seat : ℕ) (xs : List Place) (x : Option Place) → gives (turns_by seat xs ++ given_by seat x) ≤ 1
turns_give seat [] None = let few : 0 ≤ 1 = omega arith in few
turns_give seat [] (Some y) = let few : 1 + 0 ≤ 1 = omega arith in few
turns_give seat (z ∷ xs) x = turns_give seat xs x

one_each : (n : ℕ) (log : List Event) → ((seat : ℕ) → IsDrivenBy seat (of_pass seat_of seat log)) → by_seats n log ≤ n
one_each zero log each = omega arith
one_each (suc n) log each =
    let driven = each n in
    let one : gives (of_pass seat_of n log) ≤ 1 = subst (λ es. gives es ≤ 1) (sym driven.2) (turns_give n driven.0 driven.1) in
    let rest = one_each n log each in
    let sum : gives (of_pass seat_of n log) + by_seats n log ≤ suc n = omega (arith, one, rest) in
    sum

pub few_gives : (workers : ℕ) (log : List Event) → IsWorkedBySeats workers log → gives log ≤ workers
few_gives workers log worked =
    let all = all_by_seats workers log worked.seats in
    let few = one_each workers log worked.each in
    omega (arith, all, few)

pub few_takes : {S W Map D : Type 0} (operations : S → Operations W Map) (laws : (x : S) → IsSemiring (operations x)) (way : Way S W Map D) → IsLawful operations way
    → (b : BookValue S W Map D) (workers : ℕ) → IsBook operations way b → IsWorkedBySeats workers b.journal → AreTakenFew operations way workers b
few_takes operations laws way direction b workers is worked =
    let bounded = book_takes operations laws way direction b is in
    let few = few_gives workers b.journal worked in
    omega (arith, bounded, few)
