-- Targets with their values, one by one.
use Rattle.std.specs.List.{range_with_len}
use Rattle.std.proofs.Common.{◌≡◌, ℕ, zero, suc, ◌+◌, Bool, true, false, cond, List, [], ◌∷◌, ◌++◌, drop, map, replicate, refl, sym, ap, ◌∙◌, arith, append_assoc}
use Rattle.std.specs.Prelude.{Option, None, Some, slice_get, option_map, nat_eq}
use Rattle.std.proofs.lemmas.List.{map-append}
use Rattle.truth_tables.specs.Formulas.{Formula}
use Rattle.boolean_programs.specs.declared.statement.Choice.{Choice}
use Rattle.boolean_programs.specs.declared.statement.Choice.TheVariants.{Star}
use Rattle.boolean_programs.specs.Lists.{Each, place_in}
use Rattle.boolean_machine.proofs.CallerLemmas.{get_map}
use Rattle.lowering_laws.specs.Lowering.{renamed_choice}
use Rattle.lowering_laws.specs.Weights.{choice_of, targets_of, values_of}
use Rattle.boolean_lowering.proofs.ListLemmas.{drop_at}

-- ---- one element more of a mapped list

module _ {X Y : Type 0} (f : X → Y) where
  pub mapped_more : (xs : List X) (k : ℕ) (x : X) (all done more : List Y) → slice_get xs k ≡ Some x → all ≡ done ++ map f (drop k xs) → more ≡ done ++ f x ∷ [] → all ≡ more ++ map f (drop (suc k) xs)
  mapped_more xs k x all done more e is now =
      is ∙ ap (λ ys. done ++ map f ys) (drop_at xs k x e) ∙ sym (append_assoc done (f x ∷ []) (map f (drop (suc k) xs))) ∙ ap (λ ys. ys ++ map f (drop (suc k) xs)) (sym now)

  -- what holds of each of a mapped list holds of one
  pub each_mapped : (P : Y → Type 0) (xs : List X) (k : ℕ) (x : X) → Each P (map f xs) → slice_get xs k ≡ Some x → P (f x)
  each_mapped P xs k x each e = each k (f x) (get_map f xs k x e)

pub target_more : (ps : List (ℕ × Option (Formula ℕ))) (t : ℕ) (v : Option (Formula ℕ)) (qs : List (ℕ × Option (Formula ℕ))) → qs ≡ ps ++ (t, v) ∷ [] → targets_of qs ≡ targets_of ps ++ t ∷ []
target_more ps t v qs e = ap targets_of e ∙ map-append (λ (u : ℕ × Option (Formula ℕ)). u.0) ps ((t, v) ∷ [])

pub value_more : (ps : List (ℕ × Option (Formula ℕ))) (t : ℕ) (v : Option (Formula ℕ)) (c : Choice) (qs : List (ℕ × Option (Formula ℕ))) → qs ≡ ps ++ (t, v) ∷ [] → choice_of v ≡ c → values_of qs ≡ values_of ps ++ c ∷ []
value_more ps t v c qs e is = ap values_of e ∙ map-append (λ (u : ℕ × Option (Formula ℕ)). choice_of u.1) ps ((t, v) ∷ []) ∙ ap (λ d. values_of ps ++ d ∷ []) is

-- ---- one number more of a range

pub range_more : (a n b m : ℕ) (all done more : List ℕ) → n ≡ suc m → b ≡ a + 1 → all ≡ done ++ range_with_len a n → more ≡ done ++ a ∷ [] → all ≡ more ++ range_with_len b m
range_more a n b m all done more long next is now =
    is ∙ ap (λ k. done ++ range_with_len a k) long ∙ ap (λ k. done ++ a ∷ range_with_len k m) (sym next) ∙ sym (append_assoc done (a ∷ []) (range_with_len b m)) ∙ ap (λ ys. ys ++ range_with_len b m) (sym now)

pub copies_more : {X : Type 0} (x : X) (n m : ℕ) (all done more : List X) → n ≡ suc m → all ≡ done ++ replicate n x → more ≡ done ++ x ∷ [] → all ≡ more ++ replicate m x
copies_more x n m all done more long is now =
    is ∙ ap (λ k. done ++ replicate k x) long ∙ sym (append_assoc done (x ∷ []) (replicate m x)) ∙ ap (λ ys. ys ++ replicate m x) (sym now)

-- ---- values with free ones behind them

pub slots_of_free : (f : ℕ → ℕ) (values : List Choice) (n : ℕ) → map (renamed_choice f) (values ++ replicate n Star) ≡ map (renamed_choice f) values ++ replicate n Star
slots_of_free f values n = map-append (renamed_choice f) values (replicate n Star) ∙ ap (λ vs. map (renamed_choice f) values ++ vs) (copies n)
  where
    copies : (n : ℕ) → map (renamed_choice f) (replicate n Star) ≡ replicate n Star
    copies zero = refl
    copies (suc n) = ap (λ vs. Star ∷ vs) (copies n)

-- ---- the place of a variable among those of targets

module _ (f : ℕ → ℕ) (targets : List ℕ) (v : ℕ) where
  place_step : (x k : ℕ) (o : Option ℕ) (b : Bool) → nat_eq (f x) v ≡ b → b ≡ false → option_map (λ (j : ℕ). k + j) (cond (nat_eq (f x) v) (Some 0) (option_map (λ j. suc j) o)) ≡ option_map (λ (j : ℕ). suc k + j) o
  place_step x k o true e d = cc
  place_step x k None false e d = ap (λ c. option_map (λ (j : ℕ). k + j) (cond c (Some 0) None)) e
  place_step x k (Some j) false e d = ap (λ c. option_map (λ (i : ℕ). k + i) (cond c (Some 0) (Some (suc j)))) e ∙ ap Some (let g : k + suc j ≡ suc k + j = omega arith in g)

  -- one target that is another
  pub place_later : (k x : ℕ) → slice_get targets k ≡ Some x → nat_eq (f x) v ≡ false
      → option_map (λ (j : ℕ). k + j) (place_in (map f (drop k targets)) v) ≡ option_map (λ (j : ℕ). suc k + j) (place_in (map f (drop (suc k) targets)) v)
  place_later k x e differs =
      ap (λ (ts : List ℕ). option_map (λ (j : ℕ). k + j) (place_in (map f ts) v)) (drop_at targets k x e) ∙ place_step x k (place_in (map f (drop (suc k) targets)) v) (nat_eq (f x) v) refl differs

  -- the target
  pub place_here : (k x : ℕ) → slice_get targets k ≡ Some x → nat_eq (f x) v ≡ true → option_map (λ (j : ℕ). k + j) (place_in (map f (drop k targets)) v) ≡ Some k
  place_here k x e same =
      ap (λ (ts : List ℕ). option_map (λ (j : ℕ). k + j) (place_in (map f ts) v)) (drop_at targets k x e)
      ∙ ap (λ c. option_map (λ (j : ℕ). k + j) (cond c (Some 0) (option_map (λ j. suc j) (place_in (map f (drop (suc k) targets)) v)))) same
      ∙ ap Some (let g : k + 0 ≡ k = omega arith in g)

-- ---- ranges one behind the other

pub range_joined : (a m n : ℕ) → range_with_len a m ++ range_with_len (a + m) n ≡ range_with_len a (m + n)
range_joined a zero n = ap (λ k. range_with_len k n) (let e : a + 0 ≡ a = omega arith in e) ∙ ap (range_with_len a) (let e : n ≡ 0 + n = omega arith in e)
range_joined a (suc m) n =
    ap (λ k. a ∷ (range_with_len (a + 1) m ++ range_with_len k n)) (let e : a + suc m ≡ a + 1 + m = omega arith in e)
    ∙ ap (λ ks. a ∷ ks) (range_joined (a + 1) m n)
    ∙ ap (range_with_len a) (let e : suc (m + n) ≡ suc m + n = omega arith in e)
