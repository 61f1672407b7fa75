-- Copy constants worked out over two variables, x and y, and over none.
use Rattle.std.proofs.Common.{◌≡◌, ℕ, pos, [], ◌∷◌, refl}
use Rattle.std.specs.Prelude.{None, Some}
use Rattle.copy_weights.specs.declared.form.Form.{Form}
use Rattle.copy_weights.specs.declared.form.Form.TheVariants.{Varying, Meet}
use Rattle.copy_weights.specs.declared.form.CopyW.{CopyW}
use Rattle.copy_weights.specs.declared.form.CopyW.TheVariants.{Zero, Map}
use Rattle.copy_weights.specs.declared.form.CopyMap.TheVariants.{Restore}
use Rattle.copy_weights.specs.Forms.{undefined, identity, tabulate, form, has, meet_over, changes_of, set_below, set_of}
use Rattle.copy_weights.specs.CopyConst.{combined, extended, returned, absent, rank_sum, weight_rank}

abbrev x : Form
x = Meet None 1

abbrev y : Form
y = Meet None 2

abbrev number : ℕ → Form
number n = Meet (Some (pos n)) 0

abbrev weight : Form → Form → CopyW
weight f g = Map (f ∷ g ∷ [])

-- x=1, then y=x
constant_copied : extended 2 (weight (number 1) y) (weight x x) ≡ weight (number 1) (number 1)
unfolding tabulate form has meet_over
constant_copied = refl

-- y=x, then x=1
copied_before : extended 2 (weight x x) (weight (number 1) y) ≡ weight (number 1) x
unfolding tabulate form has meet_over
copied_before = refl

branches_differ : combined 2 (weight (number 1) x) (weight (number 2) y) ≡ weight Varying (Meet None 3)
unfolding tabulate form
branches_differ = refl

branches_agree : combined 2 (weight (number 1) undefined) (weight (number 1) y) ≡ weight (number 1) y
unfolding tabulate form
branches_agree = refl

-- a call that sets x and y, with x restored
caller_kept : returned 2 (Restore 1) (weight (number 7) (number 8)) ≡ weight x (number 8)
unfolding tabulate form has
caller_kept = refl

-- of two changes of one variable the first counts; variable 2 and source 3 are not there
changes : changes_of 2 ((1, Meet None 9) ∷ (2, number 5) ∷ (1, number 3) ∷ []) ≡ x ∷ x ∷ []
unfolding tabulate
changes = refl

listed : set_of 2 (1 ∷ 2 ∷ 1 ∷ 70 ∷ []) ≡ 2
unfolding set_below
listed = refl

-- ---- ranks: no run, then each variable itself, then less and less

rank_zero : weight_rank 2 Zero ≡ 9
rank_zero = refl

rank_undefined : weight_rank 2 (weight undefined undefined) ≡ 8
unfolding rank_sum form absent has
rank_undefined = refl

rank_one : weight_rank 2 (Map (identity 2)) ≡ 6
unfolding rank_sum form absent has tabulate
rank_one = refl

rank_constants : weight_rank 2 (weight (number 1) (Meet (Some (pos 1)) 3)) ≡ 4
unfolding rank_sum form absent has
rank_constants = refl

rank_varying : weight_rank 2 (weight Varying Varying) ≡ 0
unfolding rank_sum form absent has
rank_varying = refl

rank-no_variable : weight_rank 0 Zero ≡ 1
rank-no_variable = refl
