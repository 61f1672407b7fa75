-- The moves of a pair, from one transition of its state to the next.
use Rattle.std.proofs.Common.{◌≡◌, ℕ, ◌+◌, ◌-◌, ◌<◌, Bool, true, false, List, [], ◌∷◌, ◌++◌, drop, length, refl, sym, ap, ◌∙◌, subst, arith}
use Rattle.std.specs.Prelude.{suc, Option, None, Some, cond, nat_eq, option_map, slice_get}
use Rattle.std.proofs.lemmas.Bool.{eqb-true}
use Rattle.std.proofs.lemmas.Option.{same_Some, slice_get_within}
use Rattle.std.proofs.lemmas.List.{drop-drop}
use Rattle.key_rows.specs.Rows.{index_where, index_from}
use Rattle.pushdown_rules.proofs.CallerLemmas.{index_found}
use Rattle.weighted_automata.specs.declared.transitions.Entry.{Entry}
use Rattle.weighted_automata.specs.Entries.{is_out_of}
use Rattle.saturation_laws.specs.declared.opening.Opening.{Opening}
use Rattle.path_sum.specs.Sums.{Ways, Move}
use Rattle.path_sum.specs.private.Work.{moves_by, pair_moves}

module _ {S W Map : Type 0} (o : Opening) (ways : Ways) (i q : ℕ) where
  -- the moves from a transition on, and none where there is none
  abbrev pub given : Option ℕ → List (Entry S W Map) → List Move
  given at ts = elim at [ None ↦ [] | Some k ↦ pair_moves o ways i q (drop k ts) ]

  skip : (ts : List (Entry S W Map)) → pair_moves o ways i q ts ≡ given (index_where (is_out_of q) ts) ts
  skip [] = refl
  skip (t ∷ ts) =
      let rest = pair_moves o ways i q ts in
      let here = moves_by o ways i t in
      let next : Option ℕ = option_map (λ k. k + 1) (index_where (is_out_of q) ts) in
      elim (nat_eq t.place.from q) as (λ b. nat_eq t.place.from q ≡ b → cond b (here ++ rest) rest ≡ given (cond b (Some 0) next) (t ∷ ts)) [
        | true ↦ λ is. sym (ap (λ b. cond b (here ++ rest) rest) is)
        | false ↦ λ _. skip ts ∙ elim (index_where (is_out_of q) ts) as (λ a. given a ts ≡ given (option_map (λ k. k + 1) a) (t ∷ ts)) [
          | None ↦ refl
          | Some k ↦ let more : suc k ≡ k + 1 = omega arith in ap (λ n. pair_moves o ways i q (drop n (t ∷ ts))) more
        ]
      ] refl

  -- the same from a transition on
  pub skip_from : (n : ℕ) (ts : List (Entry S W Map)) → pair_moves o ways i q (drop n ts) ≡ given (index_from (is_out_of q) n ts) ts
  skip_from n ts = skip (drop n ts) ∙ elim (index_where (is_out_of q) (drop n ts)) as (λ a. given a (drop n ts) ≡ given (option_map (λ k. k + n) a) ts) [
    | None ↦ refl
    | Some k ↦ let same : n + k ≡ k + n = omega arith in ap (pair_moves o ways i q) (drop-drop k n ts) ∙ ap (λ m. pair_moves o ways i q (drop m ts)) same
  ]

  -- where a transition of the state stands, its moves and those behind it are all that are left
  pub row_left : (n k : ℕ) (ts : List (Entry S W Map)) → index_from (is_out_of q) n ts ≡ Some k → pair_moves o ways i q (drop n ts) ≡ pair_moves o ways i q (drop k ts)
  row_left n k ts at = skip_from n ts ∙ ap (λ a. given a ts) at

  pub row_ended : (n : ℕ) (ts : List (Entry S W Map)) → index_from (is_out_of q) n ts ≡ None → pair_moves o ways i q (drop n ts) ≡ []
  row_ended n ts at = skip_from n ts ∙ ap (λ a. given a ts) at

module _ {S W Map : Type 0} (q n k : ℕ) (ts : List (Entry S W Map)) (at : index_from (is_out_of q) n ts ≡ Some k) where
  pub row_within : k < length ts
  row_within = let found = (index_found (is_out_of q) n ts k at).0 in slice_get_within ts k found.item found.there

  -- it goes from the state
  pub row_from : (t : Entry S W Map) → slice_get ts k ≡ Some t → t.place.from ≡ q
  row_from t there =
      let found = (index_found (is_out_of q) n ts k at).0 in
      let same : found.item ≡ t = same_Some found.item t (sym found.there ∙ there) in
      let P : Entry S W Map → Type 0 = λ u. is_out_of q u ≡ true in
      eqb-true t.place.from q (subst P same found.passes)

-- how many transitions stand from one on
abbrev pub row_rest : {S W Map : Type 0} → List (Entry S W Map) → Option ℕ → ℕ
row_rest ts at = elim at [ None ↦ 0 | Some k ↦ length ts - k ]

-- they become fewer from one to the next
pub row_shrinks : {S W Map : Type 0} (p : Entry S W Map → Bool) (k : ℕ) (ts : List (Entry S W Map)) (next : Option ℕ) → k < length ts → next ≡ index_from p (k + 1) ts → row_rest ts next < length ts - k
row_shrinks p k ts None within e = omega (arith, within)
row_shrinks p k ts (Some j) within e =
    let found = index_found p (k + 1) ts j (sym e) in
    let behind = found.1 in
    let inside = slice_get_within ts j found.0.item found.0.there in
    omega (arith, within, behind, inside)
