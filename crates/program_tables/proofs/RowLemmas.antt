-- Rows that are found by their names.
use Rattle.std.proofs.Common.{◌≡◌, ℕ, suc, Bool, true, false, cond, List, [], ◌∷◌, ◌++◌, Option, None, Some, refl, sym, ap, subst, ◌∙◌}
use Rattle.std.specs.Prelude.{unwrap_or, bytes_eq, slice_get, MatchOption}
use Rattle.std.proofs.lemmas.Option.{same_Some}
use Rattle.std.proofs.lemmas.Slice.Eq.{bytes_eq-Decides}
use Rattle.key_rows.specs.Positions.{last_where}
use Rattle.program_tables.specs.declared.rows.NamedRow.{NamedRow}
use Rattle.program_tables.specs.Tables.{row_at}

module _ {Row : Type 0} (x : List ℕ)
  where
    -- what is at the name, with a row in front
    abbrev with_front : Option Row → NamedRow Row → Option Row
    with_front o r = elim o [ Some row ↦ Some row | None ↦ cond (bytes_eq x r.name.now) (Some r.row) None ]

    -- a row more is the one of its name
    row_more : (rs : List (NamedRow Row)) (m : NamedRow Row) → row_at (rs ++ m ∷ []) x ≡ cond (bytes_eq x m.name.now) (Some m.row) (row_at rs x)
    row_more [] m = refl
    row_more (r ∷ rs) m = ap (λ o. with_front o r) (row_more rs m) ∙ go (bytes_eq x m.name.now)
      where
        go : (b : Bool) → with_front (cond b (Some m.row) (row_at rs x)) r ≡ cond b (Some m.row) (with_front (row_at rs x) r)
        go true = refl
        go false = refl

    module _ (p : NamedRow Row → Bool) (same : (r : NamedRow Row) → p r ≡ bytes_eq x r.name.now)
      where
        abbrev last : Option ℕ → Bool → Option ℕ
        last o b = elim o [ Some k ↦ Some (suc k) | None ↦ cond b (Some 0) None ]

        -- the front row is at the name, or it is not, where none behind it is
        front : (r : NamedRow Row) (o : Option Row) (b : Bool) → p r ≡ b → o ≡ None → with_front o r ≡ cond b (Some r.row) None
        front r o b f d = ap (λ i. with_front i r) d ∙ ap (λ c. cond c (Some r.row) None) (sym (same r) ∙ f)

        -- where none passes there is no row
        pub row_none : (rs : List (NamedRow Row)) → last_where p rs ≡ None → row_at rs x ≡ None
        row_none [] e = refl
        row_none (r ∷ rs) e = go (last_where p rs) (p r) refl refl e (row_none rs)
          where
            go : (o : Option ℕ) (b : Bool) → last_where p rs ≡ o → p r ≡ b → last o b ≡ None
                → (last_where p rs ≡ None → row_at rs x ≡ None) → with_front (row_at rs x) r ≡ None
            go (Some k) b d f h behind = cc
            go None true d f h behind = cc
            go None false d f h behind = front r (row_at rs x) false f (behind d)

        -- the last that passes is the row
        pub row_found : (rs : List (NamedRow Row)) (n : ℕ) (t : NamedRow Row) → last_where p rs ≡ Some n → slice_get rs n ≡ Some t → row_at rs x ≡ Some t.row
        row_found [] n t e g = cc
        row_found (r ∷ rs) n t e g = go (last_where p rs) (p r) refl refl e (row_found rs)
          where
            go : (o : Option ℕ) (b : Bool) → last_where p rs ≡ o → p r ≡ b → last o b ≡ Some n
                → ((k : ℕ) (s : NamedRow Row) → last_where p rs ≡ Some k → slice_get rs k ≡ Some s → row_at rs x ≡ Some s.row)
                → with_front (row_at rs x) r ≡ Some t.row
            go (Some k) b d f h behind =
                ap (λ o. with_front o r) (behind k t d (subst (λ m. slice_get (r ∷ rs) m ≡ Some t) (sym (same_Some (suc k) n h)) g))
            go None true d f h behind =
                front r (row_at rs x) true f (row_none rs d)
                ∙ ap (λ (s : NamedRow Row). Some s.row) (same_Some r t (subst (λ m. slice_get (r ∷ rs) m ≡ Some t) (sym (same_Some 0 n h)) g))
            go None false d f h behind = cc

        -- where one passes there is a row
        pub row_there : (rs : List (NamedRow Row)) (n : ℕ) → last_where p rs ≡ Some n → (row : Row) × (row_at rs x ≡ Some row)
        row_there [] n e = cc
        row_there (r ∷ rs) n e = go (last_where p rs) (p r) refl refl e (row_there rs)
          where
            go : (o : Option ℕ) (b : Bool) → last_where p rs ≡ o → p r ≡ b → last o b ≡ Some n
                → ((k : ℕ) → last_where p rs ≡ Some k → (row : Row) × (row_at rs x ≡ Some row))
                → (row : Row) × (with_front (row_at rs x) r ≡ Some row)
            go (Some k) b d f h behind = let there = behind k d in (there.0, ap (λ o. with_front o r) there.1)
            go None true d f h behind = (r.row, front r (row_at rs x) true f (row_none rs d))
            go None false d f h behind = cc

same_either_way : (xs ys : List ℕ) → bytes_eq xs ys ≡ bytes_eq ys xs
same_either_way xs ys = go (bytes_eq xs ys) (bytes_eq ys xs) refl refl
  where
    go : (a b : Bool) → bytes_eq xs ys ≡ a → bytes_eq ys xs ≡ b → a ≡ b
    go true true d e = refl
    go false false d e = refl
    go true false d e = sym ((bytes_eq-Decides ys xs).1 (sym ((bytes_eq-Decides xs ys).0 d))) ∙ e
    go false true d e = sym d ∙ (bytes_eq-Decides xs ys).1 (sym ((bytes_eq-Decides ys xs).0 e))

-- a row is added, unless one passes
pub row_made : {Row : Type 0} (p : NamedRow Row → Bool) (old new : List (NamedRow Row)) (m : NamedRow Row)
    → ((r : NamedRow Row) → p r ≡ bytes_eq m.name.now r.name.now)
    → MatchOption (last_where p old) (new ≡ old ++ m ∷ []) (λ _. new ≡ old)
    → (f : List ℕ) → row_at new f ≡ cond (bytes_eq m.name.now f) (Some (unwrap_or (row_at old m.name.now) m.row)) (row_at old f)
row_made {Row} p old new m same h f = go (last_where p old) refl h
  where
    name : List ℕ
    name = m.name.now

    stays : (row : Row) → row_at old name ≡ Some row → (b : Bool) → bytes_eq name f ≡ b
        → row_at old f ≡ cond b (Some (unwrap_or (row_at old name) m.row)) (row_at old f)
    stays row e false d = refl
    stays row e true d =
        ap (row_at old) (sym ((bytes_eq-Decides name f).0 d)) ∙ e ∙ ap (λ o. Some (unwrap_or o m.row)) (sym e)

    go : (o : Option ℕ) → last_where p old ≡ o → MatchOption o (new ≡ old ++ m ∷ []) (λ _. new ≡ old)
        → row_at new f ≡ cond (bytes_eq name f) (Some (unwrap_or (row_at old name) m.row)) (row_at old f)
    go None d g =
        ap (λ rs. row_at rs f) g ∙ row_more f old m ∙ ap (λ b. cond b (Some m.row) (row_at old f)) (same_either_way f name)
        ∙ ap (λ o. cond (bytes_eq name f) (Some (unwrap_or o m.row)) (row_at old f)) (sym (row_none name p same old d))
    go (Some n) d g =
        let there = row_there name p same old n d in
        ap (λ rs. row_at rs f) g ∙ stays there.0 there.1 (bytes_eq name f) refl
