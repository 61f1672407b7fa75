-- Counts of faults over several calls.
use Rattle.std.proofs.Common.{ℕ, ◌≤◌, refl, arith}
use Rattle.std.specs.Prelude.{Result, Ok, Err, IsOk}
use Rattle.wpds_port.specs.Causes.{Rose, HasCause}

-- a count that rose has risen since any earlier time
pub rose-since : (a b c : ℕ) → a ≤ b → Rose b c → Rose a c
rose-since a b c h rose = omega arith

-- and it stays so
pub rose-until : (a b c : ℕ) → Rose a b → b ≤ c → Rose a c
rose-until a b c rose h = omega arith

-- a call after others
pub has_cause-since : {T E : Type 0} (a b c : ℕ) (r : Result T E) → a ≤ b → HasCause b c r → HasCause a c r
has_cause-since a b c (Ok x) h cause = record { later = omega arith; failed = tt }
has_cause-since a b c (Err e) h cause = record { later = omega arith; failed = rose-since a b c h cause.failed }

-- a count that stays below its end shows that nothing failed
pub ok-of_same_count : {T E : Type 0} (n : ℕ) (r : Result T E) → ¬ Rose n n → HasCause n n r → IsOk r
ok-of_same_count n (Ok x) same cause = refl
ok-of_same_count n (Err e) same cause = absurd (same cause.failed)
