-- Passes that are handed to threads, and what they are when they come back.
use Rattle.std.proofs.Common.{◌≡◌, ◌≢◌, ℕ, ◌+◌, ◌-◌, ◌<◌, inl, inr, List, [], ◌∷◌, ◌++◌, length, refl, sym, ap, ◌∙◌, subst, arith}
use Rattle.std.specs.Prelude.{Option, Some, None, IfSome, All, slice_index_or, Result, Ok, Err, IfOk}
use Rattle.std.specs.Option.{IsSomeAnd}
use Rattle.std.proofs.lemmas.List.{append-nil, get_or_push}
use Rattle.saturation_laws.specs.declared.event.Event.{Event}
use Rattle.seat_lock.specs.declared.view.View.{View}
use Rattle.seat_lock.specs.declared.view.Journaled.{Ghosts}
use Rattle.seat_lock.specs.declared.lock.Pass.{Pass}
use Rattle.seat_lock.specs.declared.lock.SeatLock.{SeatLock}
use Rattle.seat_lock.specs.Queue.{Each, Claim, Among, of_pass}
use Rattle.seat_lock.specs.Passes.{own_number, own_entries}
use Rattle.std.proofs.lemmas.Bool.{cases_eq}
use Rattle.weighted_automata.specs.declared.place.Place.{Place}
use Rattle.saturation_laws.specs.declared.event.Event.TheVariants.{Take, Settle}
use Rattle.seat_lock.proofs.CallerLemmas.{own-after, each-map, each-both, among_or, among-each, filter-none}
use Rattle.worker_pool.specs.declared.driven.DriveEnd.{DriveEnd}
use Rattle.worker_pool.specs.declared.driven.DriveEnd.TheVariants.{Closed, Memory}
use Rattle.worker_pool.specs.Alone.{IsAlone, turns_of}
use Rattle.saturation_laws.specs.States.{seat_of}
use Rattle.worker_pool.specs.Events.{turns_by, given_by}
use Rattle.worker_pool.specs.Driving.{HasDriven}
use Rattle.worker_pool.specs.Errands.{IsDrivenBy, IsWorkedBySeats, HasRun, IsFresh, IsDone, IsFirst}

-- the one claim of a pass that nothing was joined into
pub one_claim : (cs : List (Claim Event)) (n workers : ℕ) → length cs ≡ 1 → own_number cs ≡ n → n < workers → IsDrivenBy n (own_entries cs) → Each (λ c. (c.0 < workers) × IsDrivenBy c.0 c.1) cs
one_claim [] n workers one is within driven = absurd (omega arith)
one_claim (c ∷ []) n workers one is within driven = ((subst (λ k. k < workers) (sym is) within, subst (λ k. IsDrivenBy k c.1) (sym is) driven), tt)
one_claim (c ∷ d ∷ cs) n workers one is within driven = absurd (omega arith)

pub count_first : (joined rest all workers : ℕ) → joined ≡ 1 → rest + 1 ≡ all → all ≡ workers → joined + rest ≡ workers
count_first joined rest all workers one more are = omega arith

-- what a worker that begins with nothing has done
driven_by : {B : Type 0} (end : DriveEnd) (old new : View B Event) → own_entries old.claims ≡ [] → HasDriven end old new → IsDrivenBy (own_number old.claims) (own_entries new.claims)
driven_by Closed old new none h = (h.0, None, h.1 ∙ ap (λ es. es ++ turns_by (own_number old.claims) h.0) none ∙ sym (append-nil (turns_by (own_number old.claims) h.0)))
driven_by Memory old new none h = (h.0, h.1, h.2 ∙ ap (λ es. es ++ (turns_by (own_number old.claims) h.0 ++ given_by (own_number old.claims) h.1)) none)

module _ {T B : Type 0} {J : Ghosts T B Event} where
  pub done : (lock : SeatLock T B Event) (workers : ℕ) (p q : Pass T B Event J) → IsFresh lock workers p → HasRun p q → IsDone lock workers q
  done lock workers p q fresh run = record {
    of = run.0.lock ∙ fresh.of;
    seat = subst (λ n. n < workers) (sym run.0.number) fresh.seat;
    joined = run.0.joined ∙ fresh.joined;
    own = subst (λ n. IsDrivenBy n (own_entries q.seat.me.0.claims)) (p.is.names ∙ sym run.0.number) (driven_by run.2.0 p.seat.me.0 q.seat.me.0 fresh.own run.2.1);
  }

  some_done : (lock : SeatLock T B Event) (workers : ℕ) (o n : Option (Pass T B Event J)) → IsSomeAnd o (IsFresh lock workers) → IfSome o (λ p. IsSomeAnd n (HasRun p)) → IsSomeAnd n (IsDone lock workers)
  some_done lock workers None n fresh run = absurd fresh
  some_done lock workers (Some p) None fresh run = absurd run
  some_done lock workers (Some p) (Some q) fresh run = done lock workers p q fresh run

  some_first : (base : Option B) (workers : ℕ) (o n : Option (Pass T B Event J)) → IsSomeAnd o (IsFirst base workers) → IfSome o (λ p. IsSomeAnd n (HasRun p)) → IsSomeAnd n (IsFirst base workers)
  some_first base workers None n first run = absurd first
  some_first base workers (Some p) None first run = absurd run
  some_first base workers (Some p) (Some q) first run = record { number = run.0.number ∙ first.number; made = run.0.made ∙ first.made; based = run.1.base ∙ first.based }

  module _ {X : Type 0} (f : X → Option (Pass T B Event J)) (lock : SeatLock T B Event) (workers : ℕ) (xs ys : List X) where
    pub all_done : length ys ≡ length xs → All (λ e. IsSomeAnd (f e) (IsFresh lock workers)) xs
        → ((k : ℕ) (d : X) → k < length xs → IfSome (f (slice_index_or xs k d)) (λ p. IsSomeAnd (f (slice_index_or ys k d)) (HasRun p))) → All (λ e. IsSomeAnd (f e) (IsDone lock workers)) ys
    all_done len fresh ran k d within =
        let there : k < length xs = subst (λ n. k < n) len within in
        some_done lock workers (f (slice_index_or xs k d)) (f (slice_index_or ys k d)) (fresh k d there) (ran k d there)

    pub first_done : (base : Option B) (k : ℕ) → k < length xs → ((d : X) → IsSomeAnd (f (slice_index_or xs k d)) (IsFirst base workers))
        → ((k : ℕ) (d : X) → k < length xs → IfSome (f (slice_index_or xs k d)) (λ p. IsSomeAnd (f (slice_index_or ys k d)) (HasRun p))) → (d : X) → IsSomeAnd (f (slice_index_or ys k d)) (IsFirst base workers)
    first_done base k within first ran d = some_first base workers (f (slice_index_or xs k d)) (f (slice_index_or ys k d)) (first d) (ran k d within)

-- what the claims of all passes say of the journal
module _ (workers : ℕ) (log : List Event) (claims : List (Claim Event)) (fits : Each (λ c. of_pass seat_of c.0 log ≡ c.1) claims) (among : Each (λ e. Among (seat_of e) claims) log)
    (done : Each (λ c. (c.0 < workers) × IsDrivenBy c.0 c.1) claims) where
  seat_below : (n : ℕ) → Among n claims → n < workers
  seat_below n a = let c = among-each (λ k. (k.0 < workers) × IsDrivenBy k.0 k.1) n claims done a in subst (λ m. m < workers) c.1 c.2.0

  seat_driven : (seat : ℕ) → IsDrivenBy seat (of_pass seat_of seat log)
  seat_driven seat = elim (among_or seat claims) [
    | inl a ↦
        let both = each-both (λ k. of_pass seat_of k.0 log ≡ k.1) (λ k. (k.0 < workers) × IsDrivenBy k.0 k.1) (λ k. IsDrivenBy k.0 (of_pass seat_of k.0 log)) (λ k is d. subst (IsDrivenBy k.0) (sym is) d.1) claims fits done in
        let c = among-each (λ k. IsDrivenBy k.0 (of_pass seat_of k.0 log)) seat claims both a in
        subst (λ n. IsDrivenBy n (of_pass seat_of n log)) c.1 c.2
    | inr none ↦
        let others = each-map (λ e. Among (seat_of e) claims) (λ e. seat_of e ≢ seat)
        (λ e a is. let c = among-each (λ k. k.0 ≢ seat) (seat_of e) claims none a in c.2 (c.1 ∙ is)) log among in
        ([], None, filter-none seat_of seat log others)
  ]

  pub worked_by_seats : IsWorkedBySeats workers log
  worked_by_seats = record {
    seats = each-map (λ e. Among (seat_of e) claims) (λ e. seat_of e < workers) (λ e a. seat_below (seat_of e) a) log among;
    each = seat_driven;
  }

-- one worker is seat 0
turns_are : (xs : List Place) → turns_of xs ≡ turns_by 0 xs
turns_are [] = refl
turns_are (x ∷ xs) = ap (λ es. Take 0 x ∷ Settle 0 ∷ es) (turns_are xs)

all_zero : (xs : List Place) → Each (λ e. seat_of e ≡ 0) (turns_of xs)
all_zero [] = tt
all_zero (x ∷ xs) = (refl, (refl, all_zero xs))

pub alone_seats : (workers : ℕ) (log : List Event) → 0 < workers → IsAlone log → IsWorkedBySeats workers log
alone_seats workers log some alone =
    let xs = alone.0 in
    let zero = subst (Each (λ e. seat_of e ≡ 0)) (sym alone.1) (all_zero xs) in
    record {
      seats = each-map (λ e. seat_of e ≡ 0) (λ e. seat_of e < workers) (λ e is. subst (λ n. n < workers) (sym is) some) log zero;
      each = λ seat. elim (cases_eq seat 0) [
        | inl same ↦ subst (λ n. IsDrivenBy n (of_pass seat_of n log)) (sym same)
            (xs, None, own-after seat_of 0 [] log zero ∙ alone.1 ∙ turns_are xs ∙ sym (append-nil (turns_by 0 xs)))
        | inr other ↦ ([], None, filter-none seat_of seat log (each-map (λ e. seat_of e ≡ 0) (λ e. seat_of e ≢ seat) (λ e is at. other (sym at ∙ is)) log zero))
      ];
    }

pub ok_alone : {X Y : Type 0} (r : Result X Y) (workers : ℕ) (journal : X → List Event) → workers ≡ 1 → IfOk r (λ b. IsAlone (journal b)) → IfOk r (λ b. IsWorkedBySeats workers (journal b))
ok_alone (Ok b) workers journal one alone = alone_seats workers (journal b) (omega (arith, one)) alone
ok_alone (Err e) workers journal one alone = tt

-- the pass that stands last is the first one
pub last_first : {T B X : Type 0} {J : Ghosts T B Event} (f : X → Option (Pass T B Event J)) (base : Option B) (workers : ℕ) (ys rest : List X) (last : X) (p : Pass T B Event J)
    → ys ≡ rest ++ last ∷ [] → length rest + 1 ≡ length ys → length ys ≡ workers → ((d : X) → IsSomeAnd (f (slice_index_or ys (workers - 1) d)) (IsFirst base workers)) → f last ≡ Some p → IsFirst base workers p
last_first f base workers ys rest last p split count len first is =
    let at : slice_index_or ys (workers - 1) last ≡ last = ap (λ zs. slice_index_or zs (workers - 1) last) split ∙ get_or_push rest last last (workers - 1) (omega (arith, count, len)) in
    let here = subst (λ e. IsSomeAnd (f e) (IsFirst base workers)) at (first last) in
    subst (λ o. IsSomeAnd o (IsFirst base workers)) is here

pub below : (workers n : ℕ) → n ≡ workers → 0 < workers → workers - 1 < n
below workers n len some = omega arith

pub first_in : {T B X : Type 0} {J : Ghosts T B Event} (f : X → Option (Pass T B Event J)) (xs ys : List X) (base : Option B) (workers : ℕ) → xs ≡ ys
    → ((d : X) → IsSomeAnd (f (slice_index_or ys (workers - 1) d)) (IsFirst base workers)) → (d : X) → IsSomeAnd (f (slice_index_or xs (workers - 1) d)) (IsFirst base workers)
first_in f xs ys base workers same first d = subst (λ zs. IsSomeAnd (f (slice_index_or zs (workers - 1) d)) (IsFirst base workers)) (sym same) (first d)
