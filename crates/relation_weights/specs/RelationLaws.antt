-- Relations between states of n bits are a semiring.
use Rattle.std.specs.Prelude.{◌≡◌, ℕ, ◌<◌, Bool, List, slice_index_or, IsTrue, refl}
use Rattle.std.proofs.lemmas.Bool.{ltb-true}
use Rattle.semiring_laws.specs.Semiring.{IsSemiring}
use Rattle.relation_laws.specs.Building.{Parts}
use Rattle.relation_laws.specs.States.{AgreeBelow}
use Rattle.relation_laws.specs.Relations.{leads, relation_of, no_pairs, identity, union, composition, returned}
use Rattle.relation_laws.proofs.CallerLemmas.{each_gives, FitsIn, ReadsSource, parts_are, parts_equal, relation_fits, combined_comm, combined_assoc, combined_same, combined_nothing, extended_assoc, extended_stay_left, extended_stay_right, extended_nothing_left, extended_nothing_right, extended-combined_right, extended-combined_left, stay_is_something, back_nothing, back_combined}
use Rattle.relation_laws.proofs.CallerLemmas.{outside_nothing, outside_never_rises, outside_falls}
use Rattle.relation_weights.specs.declared.rel_map.Slot.{Slot}
use Rattle.relation_weights.specs.declared.rel_map.Slot.TheVariants.{Caller, Callee}
use Rattle.relation_weights.specs.declared.rel_map.RelMap.{RelMap}
use Rattle.relation_weights.specs.declared.rel_map.RelMap.TheVariants.{Plain, Slots}
use Rattle.relation_weights.specs.Relations.{slot_bit, source_of, after_of, slot_fits, map_fits, relation_fits as fits_relation, relation_operations}

pub fits_in : (n : ℕ) (w : Parts) → IsTrue (fits_relation n w) → FitsIn n w
fits_in n w fit = parts_are (relation_of n (leads w)) w fit

pub fits_by : (n : ℕ) (w : Parts) → FitsIn n w → IsTrue (fits_relation n w)
fits_by n w fit = (parts_equal (relation_of n (leads w)) w).1 fit

slot_reads : (n : ℕ) (s : Slot) → IsTrue (slot_fits n s) → (v : ℕ) → v < n → (x z x' z' : ℕ → Bool) → AgreeBelow n x x' → AgreeBelow n z z' → slot_bit s v x z ≡ slot_bit s v x' z'
slot_reads n Caller fit v below x z x' z' a b = a v below
slot_reads n (Callee u) fit v below x z x' z' a b = b u (ltb-true u n fit)

pub source_reads : (n : ℕ) (slots : List Slot) → IsTrue (map_fits n (Slots slots)) → ReadsSource n (source_of slots)
source_reads n slots fit v below = slot_reads n (slice_index_or slots v Caller) (each_gives n (λ k. slot_fits n (slice_index_or slots k Caller)) fit v below) v below

after_fits : (n : ℕ) (h : RelMap) (w : Parts) → IsTrue (fits_relation n w) → IsTrue (fits_relation n (after_of n h w))
after_fits n Plain w fit = fit
after_fits n (Slots slots) w fit = fits_by n (after_of n (Slots slots) w) (relation_fits n (returned n (source_of slots) (leads w)))

after-zero : (n : ℕ) (h : RelMap) → IsTrue (map_fits n h) → after_of n h (relation_of n no_pairs) ≡ relation_of n no_pairs
after-zero n Plain fit = refl
after-zero n (Slots slots) fit = back_nothing n (source_of slots) (source_reads n slots fit)

after-combine : (n : ℕ) (h : RelMap) (a b : Parts) → IsTrue (map_fits n h) → IsTrue (fits_relation n a) → IsTrue (fits_relation n b)
    → after_of n h (relation_of n (union (leads a) (leads b))) ≡ relation_of n (union (leads (after_of n h a)) (leads (after_of n h b)))
after-combine n Plain a b fit fa fb = refl
after-combine n (Slots slots) a b fit fa fb = back_combined n (source_of slots) (source_reads n slots fit) a b (fits_in n a fa) (fits_in n b fb)

pub relation_laws : (n : ℕ) → IsSemiring (relation_operations n)
relation_laws n =
    let f = fits_in n in
    record {
      fits-zero = fits_by n (relation_of n no_pairs) (relation_fits n no_pairs);
      fits-one = fits_by n (relation_of n (identity n)) (relation_fits n (identity n));
      fits-plain = refl;
      fits-combine = λ a b _ _. fits_by n (relation_of n (union (leads a) (leads b))) (relation_fits n (union (leads a) (leads b)));
      fits-extend = λ a b _ _. fits_by n (relation_of n (composition n (leads a) (leads b))) (relation_fits n (composition n (leads a) (leads b)));
      fits-after = λ h a _ fit. after_fits n h a fit;
      same_is_equal = λ a b _ _. parts_equal a b;
      combine_comm = λ a b _ _. combined_comm n a b;
      combine_assoc = λ a b c fa fb fc. combined_assoc n a b c (f a fa) (f b fb) (f c fc);
      combine_same = λ a fa. combined_same n a (f a fa);
      combine_zero = λ a fa. combined_nothing n a (f a fa);
      extend_assoc = λ a b c fa fb fc. extended_assoc n a b c (f a fa) (f b fb) (f c fc);
      extend-one_left = λ a fa. extended_stay_left n a (f a fa);
      extend-one_right = λ a fa. extended_stay_right n a (f a fa);
      extend-zero_left = λ a fa. extended_nothing_left n a (f a fa);
      extend-zero_right = λ a fa. extended_nothing_right n a (f a fa);
      extend-combine_right = λ a b c fa fb fc. extended-combined_right n a b c (f a fa) (f b fb) (f c fc);
      extend-combine_left = λ a b c fa fb fc. extended-combined_left n a b c (f a fa) (f b fb) (f c fc);
      one_is_not_zero = stay_is_something n;
      rank-zero = outside_nothing n;
      rank_never_rises = λ a b fa fb. outside_never_rises n a b (f a fa) (f b fb);
      rank_falls = λ a b fa fb differs. outside_falls n a b (f a fa) (f b fb) differs;
      after-zero = λ h fit. after-zero n h fit;
      after-combine = λ h a b fit fa fb. after-combine n h a b fit fa fb;
      after-plain = λ a _. refl;
    }
