-- The cells of the tree, and the rows of a list.
use Rattle.std.proofs.Common.{◌≡◌, ℕ, Bool, true, false, List, [], ◌∷◌, ◌++◌, length, refl, sym, ap, ◌∙◌, subst}
use Rattle.std.specs.Prelude.{Option, Result, OnOk, Ok, None, Some, cond, IsSome, is_some, option_map}
use Rattle.std.specs.declared.cmp.Ordering.{Ordering}
use Rattle.std.specs.Ordering.{eq_by_cmp}
use Rattle.std.specs.Cmp.{IsTotalOrder, eq_by_cmp_equiv}
use Rattle.key_rows.specs.declared.rows.Row.{Row}
use Rattle.key_rows.specs.Cells.{get, cell, ContainsKey}
use Rattle.key_rows.specs.declared.rows.Ends.{Ends}
use Rattle.key_rows.specs.Rows.{index_where, last_where, has_key, gap_to, gaps_of, ends_of, AreLinked}
use Rattle.key_rows.proofs.RowLemmas.{first_of, gaps_push, ends_push, gap_to_ends, length-gaps, gaps-none, ends-none, first_is, last_is}

pub on_ok : {A E P : Type 0} (r : Result A E) (x : A) → r ≡ Ok x → OnOk r P → P
on_ok {P = P} r x e h = subst (λ o. OnOk o P) e h

abbrev content : Option (Option Ends) → Option Ends
content o = elim o [ None ↦ None | Some c ↦ c ]

content_cond : (b : Bool) (c : Option Ends) (o : Option (Option Ends)) → content (cond b (Some c) o) ≡ cond b c (content o)
content_cond true c o = refl
content_cond false c o = refl

some_cond : {X : Type 0} (b : Bool) (v : X) (o : Option X) → IsSome o → IsSome (cond b (Some v) o)
some_cond true v o h = refl
some_cond false v o h = h

module _ {K : Type 0} (cmp : K → K → Ordering) (total : IsTotalOrder cmp) where
  module _ (ks : List (Option K)) (q : K) (old new : List (Row K)) (gs : List ℕ) (before : AreLinked cmp ks old gs) where
    -- the rows once a member is added: what its row had first, and the distances
    pub rows_push : (first n : ℕ) (found : Option Ends) (made : List ℕ)
        → n ≡ length gs → found ≡ cell cmp old q → first ≡ first_of found n
        → ((s : K) → get cmp new s ≡ cond (eq_by_cmp cmp q s) (Some (Some (record { first = first; last = n }))) (get cmp old s))
        → made ≡ gap_to found n gs → AreLinked cmp (ks ++ Some q ∷ []) new (made ++ 0 ∷ [])
    rows_push first n found made number had begins sets gaps =
        let same : K → K → Bool = eq_by_cmp cmp in
        let count : n ≡ length ks = number ∙ ap length before.gaps_are ∙ length-gaps same ks in
        let was : found ≡ ends_of same q ks = had ∙ before.ends_are q in
        record {
          ends_are = λ s. ap content (sets s)
              ∙ content_cond (same q s) (Some (record { first = first; last = n })) (get cmp old s)
              ∙ ap (λ m. cond (same q s) (Some (record { first = m; last = n })) (cell cmp old s)) (begins ∙ ap (λ o. first_of o n) was)
              ∙ ap (λ m. cond (same q s) (Some (record { first = first_of (ends_of same q ks) m; last = m })) (cell cmp old s)) count
              ∙ ap (cond (same q s) (Some (record { first = first_of (ends_of same q ks) (length ks); last = length ks }))) (before.ends_are s)
              ∙ sym (ends_push same (eq_by_cmp_equiv total) q s ks);
          gaps_are = ap (λ xs. xs ++ 0 ∷ []) (gaps ∙ ap (λ o. gap_to o n gs) was ∙ ap (λ m. gap_to (ends_of same q ks) m gs) count ∙ ap (gap_to (ends_of same q ks) (length ks)) before.gaps_are ∙ gap_to_ends same q ks (gaps_of same ks))
              ∙ sym (gaps_push same (eq_by_cmp_equiv total) q ks);
        }

module _ {K : Type 0} (cmp : K → K → Ordering) where
  -- a key that has a cell has one still
  pub cell_kept : (old new : List (Row K)) (key k : K) (c : Option Ends)
      → get cmp new k ≡ cond (eq_by_cmp cmp key k) (Some c) (get cmp old k)
      → ContainsKey cmp old k → ContainsKey cmp new k
  cell_kept old new key k c sets had = ap is_some sets ∙ some_cond (eq_by_cmp cmp key k) c (get cmp old k) had

  -- one without a key is in no row
  pub rows_none : (ks : List (Option K)) (ends : List (Row K)) (gs : List ℕ) → AreLinked cmp ks ends gs → AreLinked cmp (ks ++ None ∷ []) ends (gs ++ 0 ∷ [])
  rows_none ks ends gs before = record {
    ends_are = λ s. before.ends_are s ∙ sym (ends-none (eq_by_cmp cmp) s ks);
    gaps_are = ap (λ xs. xs ++ 0 ∷ []) before.gaps_are ∙ sym (gaps-none (eq_by_cmp cmp) ks);
  }

  -- what the cell of a key says first
  pub first_in : (ks : List (Option K)) (ends : List (Row K)) (gs : List ℕ) (key : K) (found : Option Ends) → AreLinked cmp ks ends gs → found ≡ cell cmp ends key
      → option_map (λ (e : Ends). e.first) found ≡ index_where (has_key (eq_by_cmp cmp) key) ks
  first_in ks ends gs key found rows is = ap (option_map (λ (e : Ends). e.first)) (is ∙ rows.ends_are key) ∙ first_is (eq_by_cmp cmp) key ks

  -- what it says last
  pub last_in : (ks : List (Option K)) (ends : List (Row K)) (gs : List ℕ) (key : K) (found : Option Ends) → AreLinked cmp ks ends gs → found ≡ cell cmp ends key
      → option_map (λ (e : Ends). e.last) found ≡ last_where (has_key (eq_by_cmp cmp) key) ks
  last_in ks ends gs key found rows is = ap (option_map (λ (e : Ends). e.last)) (is ∙ rows.ends_are key) ∙ last_is (eq_by_cmp cmp) key ks
