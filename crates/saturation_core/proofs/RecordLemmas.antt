-- Marks with the numbers of those that take, one more at their end.
use Rattle.std.proofs.Common.{◌≡◌, ℕ, suc, ◌+◌, List, [], ◌∷◌, ◌++◌, length, refl, ap, ◌∙◌, arith}
use Rattle.std.specs.Prelude.{nat_eq, if◌then◌else◌}
use Rattle.saturation_core.specs.JournalEvents as event
use Rattle.saturation_core.specs.private.Written.{takes_in, takes_in_of}
use Rattle.saturation_core.specs.declared.journal.Mark.{Mark}
use Rattle.saturation_core.specs.declared.journal.Mark.TheVariants.{Take, Settle, GiveBack}
use Rattle.saturation_core.specs.private.Records.{events_of, taken, taken_by}

suc_same : (a b : ℕ) → suc a ≡ suc b → a ≡ b
suc_same a b e = cc

pub take_push : (ms : List Mark) (ps : List ℕ) → taken ms ≡ length ps → (s : ℕ) (p : ℕ)
    → events_of (ms ++ Take s ∷ []) (ps ++ p ∷ []) ≡ events_of ms ps ++ event.Take s p ∷ []
take_push [] [] e s p = refl
take_push [] (q ∷ ps) e s p = cc
take_push (Take t ∷ ms) [] e s p = cc
take_push (Take t ∷ ms) (q ∷ ps) e s p = ap (λ es. event.Take t q ∷ es) (take_push ms ps (suc_same (taken ms) (length ps) e) s p)
take_push (Settle t ∷ ms) ps e s p = ap (λ es. event.Settle t ∷ es) (take_push ms ps e s p)
take_push (GiveBack t ∷ ms) ps e s p = ap (λ es. event.GiveBack t ∷ es) (take_push ms ps e s p)

pub settle_push : (ms : List Mark) (ps : List ℕ) → taken ms ≡ length ps → (s : ℕ)
    → events_of (ms ++ Settle s ∷ []) ps ≡ events_of ms ps ++ event.Settle s ∷ []
settle_push [] ps e s = refl
settle_push (Take t ∷ ms) [] e s = cc
settle_push (Take t ∷ ms) (q ∷ ps) e s = ap (λ es. event.Take t q ∷ es) (settle_push ms ps (suc_same (taken ms) (length ps) e) s)
settle_push (Settle t ∷ ms) ps e s = ap (λ es. event.Settle t ∷ es) (settle_push ms ps e s)
settle_push (GiveBack t ∷ ms) ps e s = ap (λ es. event.GiveBack t ∷ es) (settle_push ms ps e s)

pub give_back_push : (ms : List Mark) (ps : List ℕ) → taken ms ≡ length ps → (s : ℕ)
    → events_of (ms ++ GiveBack s ∷ []) ps ≡ events_of ms ps ++ event.GiveBack s ∷ []
give_back_push [] ps e s = refl
give_back_push (Take t ∷ ms) [] e s = cc
give_back_push (Take t ∷ ms) (q ∷ ps) e s = ap (λ es. event.Take t q ∷ es) (give_back_push ms ps (suc_same (taken ms) (length ps) e) s)
give_back_push (Settle t ∷ ms) ps e s = ap (λ es. event.Settle t ∷ es) (give_back_push ms ps e s)
give_back_push (GiveBack t ∷ ms) ps e s = ap (λ es. event.GiveBack t ∷ es) (give_back_push ms ps e s)

-- a take more, or another mark
pub taken_take : (ms : List Mark) (s : ℕ) → taken (ms ++ Take s ∷ []) ≡ suc (taken ms)
taken_take [] s = refl
taken_take (Take t ∷ ms) s = ap suc (taken_take ms s)
taken_take (Settle t ∷ ms) s = taken_take ms s
taken_take (GiveBack t ∷ ms) s = taken_take ms s

pub taken_settle : (ms : List Mark) (s : ℕ) → taken (ms ++ Settle s ∷ []) ≡ taken ms
taken_settle [] s = refl
taken_settle (Take t ∷ ms) s = ap suc (taken_settle ms s)
taken_settle (Settle t ∷ ms) s = taken_settle ms s
taken_settle (GiveBack t ∷ ms) s = taken_settle ms s

pub taken_give_back : (ms : List Mark) (s : ℕ) → taken (ms ++ GiveBack s ∷ []) ≡ taken ms
taken_give_back [] s = refl
taken_give_back (Take t ∷ ms) s = ap suc (taken_give_back ms s)
taken_give_back (Settle t ∷ ms) s = taken_give_back ms s
taken_give_back (GiveBack t ∷ ms) s = taken_give_back ms s

pub takes_are : (ms : List Mark) (ps : List ℕ) → taken ms ≡ length ps → takes_in (events_of ms ps) ≡ length ps
takes_are [] [] e = refl
takes_are [] (q ∷ ps) e = cc
takes_are (Take t ∷ ms) [] e = cc
takes_are (Take t ∷ ms) (q ∷ ps) e = ap (λ n. 1 + n) (takes_are ms ps (suc_same (taken ms) (length ps) e)) ∙ omega arith
takes_are (Settle t ∷ ms) ps e = ap (λ n. 0 + n) (takes_are ms ps e) ∙ omega arith
takes_are (GiveBack t ∷ ms) ps e = ap (λ n. 0 + n) (takes_are ms ps e) ∙ omega arith

pub takes_by : (k : ℕ) (ms : List Mark) (ps : List ℕ) → taken ms ≡ length ps → takes_in_of k (events_of ms ps) ≡ taken_by k ms
takes_by k [] ps e = refl
takes_by k (Take t ∷ ms) [] e = cc
takes_by k (Take t ∷ ms) (q ∷ ps) e = ap (λ n. (if nat_eq t k then 1 else 0) + n) (takes_by k ms ps (suc_same (taken ms) (length ps) e))
takes_by k (Settle t ∷ ms) ps e = ap (λ n. 0 + n) (takes_by k ms ps e)
takes_by k (GiveBack t ∷ ms) ps e = ap (λ n. 0 + n) (takes_by k ms ps e)
