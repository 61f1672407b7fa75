-- The rounds of a worker, one after another.
use Rattle.std.proofs.Common.{◌≡◌, ℕ, Bool, true, List, [], ◌∷◌, ◌++◌, refl, sym, ap, ◌∙◌, subst, append_assoc}
use mathlib.Core.List.{IsPrefix}
use Rattle.weighted_automata.specs.declared.place.Place.{Place}
use Rattle.saturation_laws.specs.declared.event.Event.{Event}
use Rattle.saturation_laws.specs.declared.event.Event.TheVariants.{Take, Settle, GiveBack}
use Rattle.seat_lock.specs.declared.view.View.{View}
use Rattle.seat_lock.specs.declared.view.Journaled.{Ghosts}
use Rattle.seat_lock.specs.declared.lock.Pass.{Pass}
use Rattle.seat_lock.specs.Passes.{own_number, own_entries}
use Rattle.worker_pool.specs.Events.{free_after, is_ended, turns_by}
use Rattle.worker_pool.specs.Passes.{IsSame}
use Rattle.worker_pool.specs.Turns.{Keeps, HasMore}

free_append : (b : Bool) (xs ys : List Event) → free_after b (xs ++ ys) ≡ free_after (free_after b xs) ys
free_append b [] ys = refl
free_append b (Take k x ∷ xs) ys = free_append _ xs ys
free_append b (Settle k ∷ xs) ys = free_append _ xs ys
free_append b (GiveBack k ∷ xs) ys = free_append _ xs ys

turns_free : (n : ℕ) (xs : List Place) → free_after true (turns_by n xs) ≡ true
turns_free n [] = refl
turns_free n (x ∷ xs) = turns_free n xs

turns_append : (n : ℕ) (xs ys : List Place) → turns_by n (xs ++ ys) ≡ turns_by n xs ++ turns_by n ys
turns_append n [] ys = refl
turns_append n (x ∷ xs) ys = ap (λ es. Take n x ∷ Settle n ∷ es) (turns_append n xs ys)

prefix_trans : {E : Type 0} (xs ys zs : List E) → IsPrefix xs ys → IsPrefix ys zs → IsPrefix xs zs
prefix_trans xs ys zs p q = (p.0 ++ q.0, sym (append_assoc xs p.0 q.0) ∙ ap (λ w. w ++ q.0) p.1 ∙ q.1)

module _ {B E : Type 0} where
  pub keeps_on : (u v w : View B E) → Keeps u v → Keeps v w → Keeps u w
  keeps_on u v w a b = record {
    base = b.base ∙ a.base;
    seen = prefix_trans u.seen v.seen w.seen a.seen b.seen;
    number = b.number ∙ a.number;
    joined = b.joined ∙ a.joined;
  }

  pub more_on : (u v w : View B E) (es fs : List E) → HasMore es u v → HasMore fs v w → HasMore (es ++ fs) u w
  more_on u v w es fs a b = b ∙ ap (λ z. z ++ fs) a ∙ append_assoc (own_entries u.claims) es fs

module _ {T B E : Type 0} {J : Ghosts T B E} where
  pub same_on : (p q r : Pass T B E J) → IsSame p q → IsSame q r → IsSame p r
  same_on p q r a b = record { lock = b.lock ∙ a.lock; number = b.number ∙ a.number; left = b.left ∙ a.left; joined = b.joined ∙ a.joined; made = b.made ∙ a.made }

-- What holds of a pass between the rounds of a worker.
module _ {B : Type 0} where
  pub record IsBetween (u v : View B Event) : Type 0 where
    pub keeps : Keeps u v
    pub places : List Place
    pub more : HasMore (turns_by (own_number u.claims) places) u v

  -- a worker between rounds has ended what it took
  pub ended_between : (u v : View B Event) → is_ended (own_entries u.claims) ≡ true → IsBetween u v → is_ended (own_entries v.claims) ≡ true
  ended_between u v ended b =
      ap (free_after true) b.more ∙ free_append true (own_entries u.claims) (turns_by (own_number u.claims) b.places)
      ∙ ap (λ z. free_after z (turns_by (own_number u.claims) b.places)) ended ∙ turns_free (own_number u.claims) b.places

  -- what a round adds follows what the rounds before it added
  pub adds : (u v w : View B Event) (f : ℕ → List Event) (b : IsBetween u v) → HasMore (f (own_number v.claims)) v w → HasMore (turns_by (own_number u.claims) b.places ++ f (own_number u.claims)) u w
  adds u v w f b more =
      more_on u v w (turns_by (own_number u.claims) b.places) (f (own_number u.claims)) b.more (subst (λ n. HasMore (f n) v w) b.keeps.number more)

  pub goes_on : (u v w : View B Event) (xs : List Place) → IsBetween u v → Keeps v w → HasMore (turns_by (own_number v.claims) xs) v w → IsBetween u w
  goes_on u v w xs b kept more = record {
    keeps = keeps_on u v w b.keeps kept;
    places = b.places ++ xs;
    more = subst (λ es. HasMore es u w) (sym (turns_append (own_number u.claims) b.places xs)) (adds u v w (λ n. turns_by n xs) b more);
  }
