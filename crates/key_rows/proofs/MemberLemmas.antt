-- Members that are found by their keys.
use Rattle.std.proofs.Common.{zero, suc, ◌≡◌, ℕ, ◌<◌, Bool, true, List, [], ◌∷◌, ◌++◌, length, map, set, sym, ap, ◌∙◌, arith}
use Rattle.std.specs.Prelude.{Option, None, Some, cond, slice_get, IfSome}
use Rattle.std.specs.declared.cmp.Ordering.{Ordering}
use Rattle.std.specs.Ordering.{eq_by_cmp, is_eq}
use Rattle.std.specs.Cmp.{IsTotalOrder, eq_by_cmp_equiv, Equal-is}
use Rattle.std.proofs.lemmas.Bool.{cond-true}
use Rattle.std.proofs.lemmas.List.{take_all}
use Rattle.std.proofs.lemmas.Option.{same_Some}
use Rattle.key_rows.specs.Members.{has, number_of}
use Rattle.key_rows.specs.Positions.{last_where}
use Rattle.key_rows.specs.declared.keyed.Cell.{Cell}
use Rattle.key_rows.specs.private.Chains.{member_in}
use Rattle.key_rows.proofs.ChainLemmas.{last_passes}
use Rattle.key_rows.proofs.RowLemmas.{last_where-push, last_within}

module _ {T : Type 0} where
  -- the member of a cell
  pub get_member : (cs : List (Cell T)) (n : ℕ) (c : Cell T) → slice_get cs n ≡ Some c → slice_get (map member_in cs) n ≡ Some c.member
  get_member [] n c at = cc
  get_member (x ∷ xs) zero c at = ap (λ (y : Cell T). Some y.member) (same_Some x c at)
  get_member (x ∷ xs) (suc n) c at = get_member xs n c at

pub passes : {X : Type 0} (p : X → Bool) (xs : List X) (n : ℕ) (x : X) → last_where p xs ≡ Some n → slice_get xs n ≡ Some x → p x ≡ true
passes p xs n x e at = last_passes p xs (length xs) n x (ap (last_where p) (take_all (length xs) xs (omega arith)) ∙ e) at

module _ {T : Type 0} (p : T → Bool) (x y : T) (alike : p y ≡ p x) where
  -- where one is another that passes alike, the last is the last
  last_written : (ts : List T) (n : ℕ) → slice_get ts n ≡ Some x → last_where p (set ts n y) ≡ last_where p ts
  last_written [] n e = cc
  last_written (z ∷ zs) zero e = ap (λ b. elim (last_where p zs) [ Some k ↦ Some (suc k) | None ↦ cond b (Some 0) None ]) (alike ∙ ap p (sym (same_Some z x e)))
  last_written (z ∷ zs) (suc n) e = ap (λ o. elim o [ Some k ↦ Some (suc k) | None ↦ cond (p z) (Some 0) None ]) (last_written zs n e)

module _ {K T : Type 0} (cmp : K → K → Ordering) (key_of : T → K) where
  -- where a key stands is a number of a member
  pub number_within : (ts : List T) (k : K) (o : Option ℕ) → o ≡ number_of cmp key_of k ts → IfSome o (λ n. n < length ts)
  number_within ts k None e = tt
  number_within ts k (Some n) e = last_within (has cmp key_of k) ts n (sym e)

  -- where one is another with its key, all are found as before
  pub number_written : (ts : List T) (n : ℕ) (x y : T) → slice_get ts n ≡ Some x → key_of y ≡ key_of x → (k : K) → number_of cmp key_of k (set ts n y) ≡ number_of cmp key_of k ts
  number_written ts n x y there same k = last_written (has cmp key_of k) x y (ap (eq_by_cmp cmp k) same) ts n there

  module _ (total : IsTotalOrder cmp) where
    -- equal keys are found at one number
    pub one_number : (ts : List T) (s t : K) → eq_by_cmp cmp s t ≡ true → number_of cmp key_of s ts ≡ number_of cmp key_of t ts
    one_number ts s t e =
        let orders : (z : K) → cmp s z ≡ cmp t z = λ z. total.congr s t z ((Equal-is (cmp s t)).0 e) in
        ap (λ (f : K → Ordering). last_where (λ (x : T). is_eq (f (key_of x))) ts) (λ j z. orders z j)

    -- a member that goes last is found there by its key
    pub number_pushed : (ts : List T) (new : T) → number_of cmp key_of (key_of new) (ts ++ new ∷ []) ≡ Some (length ts)
    number_pushed ts new =
        last_where-push (has cmp key_of (key_of new)) new ts
        ∙ cond-true (eq_by_cmp cmp (key_of new) (key_of new)) (Some (length ts)) (last_where (has cmp key_of (key_of new)) ts) ((eq_by_cmp_equiv total).refl (key_of new))
