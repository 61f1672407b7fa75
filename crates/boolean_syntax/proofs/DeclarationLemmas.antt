-- The kinds of lines that declare names, and of queries.
use Rattle.std.proofs.Common.{◌≡◌, ℕ, ◌+◌, Bool, true, false, not, ◌&&◌, ◌||◌, cond, List, [], ◌∷◌, ◌++◌, length, Option, None, Some, refl, sym, ap, ap₂, ◌∙◌, arith}
use Rattle.std.specs.Prelude.{option_map, unwrap_or, ◌==◌, nat_le, nat_lt, is_none, codes}
use Rattle.wpds_base.specs.Faults.{first_fault}
use Rattle.wpds_base.specs.Limits.{most_related, most_queries}
use Rattle.wpds_base.specs.Lists.{IsOnce}
use Rattle.wpds_port.specs.declared.Kind.TheVariants.{Form, Twice, Unknown, Count, NothingAsked, Arity, TooWide, Label}
use Rattle.document_forms.specs.Names.{is_among, has_twice, once}
use Rattle.program_forms.specs.Forms.{GlobalForm, ProcForm, LocalForm, QueryForm}
use Rattle.program_forms.specs.Places.{Stated}
use Rattle.program_forms.specs.Declared.{LabelLine, label_named, proc_named, Whole}
use Rattle.program_forms.specs.Above.{own_names, proc_names, queries, begun, closed}
use Rattle.program_forms.specs.Kinds.{has_known, is_main, is_too_wide, query_conditions, is_no_assert}
use Rattle.program_forms.specs.FirstRefusal.{kind_below, end_conditions}
use Rattle.program_forms.specs.Programs.{line_of_label}
use Rattle.program_tables.specs.Tables.{label_row}
use Rattle.program_tables.specs.declared.tables.LabelRow.{LabelRow}
use Rattle.boolean_syntax.specs.declared.reading.Reading.{Reading}
use Rattle.boolean_syntax.specs.private.Readings.{HasRead, end_kind_of}
use Rattle.boolean_syntax.proofs.KindLemmas.{kind_at, below}
use Rattle.boolean_syntax.proofs.MoreLemmas.{asked_count}
use Rattle.boolean_syntax.proofs.NameLemmas.{local_twice, proc_twice, names_joined, joined_length, none_more}

module _ (w : Whole) (above : List Stated) (old : Reading) (h : HasRead w above old)
  where
    -- how many queries stand above
    asked_above : length old.queries.items ≡ queries above
    asked_above = ap length h.queries ∙ asked_count w above

    -- what is missing behind these lines
    pub end_told : (n : ℕ) → n ≡ begun above → end_kind_of w n old ≡ first_fault (end_conditions w above)
    end_told n e =
        ap₂ (λ a b. first_fault ((nat_lt a n, Form) ∷ (is_none (proc_named w.procs (codes "main")), Unknown) ∷ (b == 0, NothingAsked) ∷ [])) h.closed_above asked_above
        ∙ ap (λ m. first_fault ((nat_lt (closed above) m, Form) ∷ (is_none (proc_named w.procs (codes "main")), Unknown) ∷ (queries above == 0, NothingAsked) ∷ [])) e

module _ (w : Whole) (above : List Stated) (l : Stated) (old : Reading) (h : HasRead w above old)
  where
    pub globals_kind : (xs : List (List ℕ)) (repeated : Bool) → l.form ≡ GlobalForm xs
        → repeated ≡ (has_twice xs || has_known old.globals xs)
        → cond repeated (Some Twice) None ≡ kind_below w above l
    globals_kind xs repeated e r =
        ap (λ t. cond t (Some Twice) None) (r ∙ ap (λ k. has_twice xs || has_known k xs) h.globals_above)
        ∙ sym (kind_at w above l (GlobalForm xs) e)

    pub locals_kind : (xs names : List (List ℕ)) (repeated wide : Bool) → l.form ≡ LocalForm xs
        → IsOnce old.scope.names
        → repeated ≡ (has_twice xs || has_known old.scope.names xs)
        → names ≡ once (old.scope.names ++ xs)
        → (repeated ≡ false → wide ≡ nat_lt most_related (length names + w.slots))
        → first_fault ((repeated, Twice) ∷ (wide, TooWide) ∷ []) ≡ kind_below w above l
    locals_kind xs names repeated wide e o r n b =
        below repeated _ Twice ((wide, TooWide) ∷ []) ((is_too_wide w (length (own_names above) + length xs), TooWide) ∷ []) twice
        (λ k. ap (λ t. first_fault ((t, TooWide) ∷ [])) (wide_is (twice ∙ k)))
        ∙ sym (kind_at w above l (LocalForm xs) e)
      where
        twice : repeated ≡ ((has_twice xs || has_known (own_names above) xs) || has_known w.globals xs)
        twice = r ∙ ap (λ k. has_twice xs || has_known k xs) h.names ∙ local_twice w.globals (own_names above) xs

        wide_is : repeated ≡ false → wide ≡ is_too_wide w (length (own_names above) + length xs)
        wide_is k =
            let count = joined_length old.scope.names names xs (names_joined old.scope.names names xs o n (sym r ∙ k)) in
            let own = joined_length w.globals old.scope.names (own_names above) h.names in
            let same : length names + w.slots ≡ length w.globals + w.slots + (length (own_names above) + length xs) = omega (arith, count, own) in
            b k ∙ ap (nat_lt most_related) same

    pub proc_kind_is : (f : List ℕ) (ps names : List (List ℕ)) (n : ℕ) (added repeated main plain wide : Bool)
        → l.form ≡ ProcForm f ps n → IsOnce w.globals
        → added ≡ not (is_among old.seen_procs f)
        → repeated ≡ (has_twice ps || has_known w.globals ps)
        → names ≡ once (w.globals ++ ps)
        → main ≡ is_main f
        → plain ≡ ((length names == length w.globals) && (n == 0))
        → wide ≡ nat_lt most_related (length names + w.slots)
        → first_fault ((not added || repeated, Twice) ∷ (main && not plain, Arity) ∷ (wide, TooWide) ∷ []) ≡ kind_below w above l
    proc_kind_is f ps names n added repeated main plain wide e o a r k m p b =
        below (not added || repeated) _ Twice ((main && not plain, Arity) ∷ (wide, TooWide) ∷ [])
        ((is_main f && not (length ps == 0 && n == 0), Arity) ∷ (is_too_wide w (length ps), TooWide) ∷ []) twice
        (λ q. rest (joined q))
        ∙ sym (kind_at w above l (ProcForm f ps n) e)
      where
        twice : (not added || repeated) ≡ ((is_among (proc_names above) f || has_twice ps) || has_known w.globals ps)
        twice =
            ap₂ (λ x y. not x || y) a r
            ∙ ap (λ x. not (not x) || (has_twice ps || has_known w.globals ps)) (h.procs_above f)
            ∙ proc_twice (is_among (proc_names above) f) (has_twice ps) (has_known w.globals ps)

        joined : ((is_among (proc_names above) f || has_twice ps) || has_known w.globals ps) ≡ false → names ≡ w.globals ++ ps
        joined q = names_joined w.globals names ps o k (last (is_among (proc_names above) f) (has_twice ps) (has_known w.globals ps) q)
          where
            last : (x y z : Bool) → ((x || y) || z) ≡ false → (y || z) ≡ false
            last true y z t = cc
            last false y z t = t

        rest : names ≡ w.globals ++ ps
            → first_fault ((main && not plain, Arity) ∷ (wide, TooWide) ∷ [])
            ≡ first_fault ((is_main f && not (length ps == 0 && n == 0), Arity) ∷ (is_too_wide w (length ps), TooWide) ∷ [])
        rest j =
            let count = joined_length w.globals names ps j in
            let same : length names + w.slots ≡ length w.globals + w.slots + length ps = omega (arith, count) in
            ap₂ (λ x y. first_fault ((x, Arity) ∷ (y, TooWide) ∷ []))
            (ap₂ (λ x y. x && not y) m (p ∙ ap (λ t. t && (n == 0)) (none_more (length names) (length w.globals) (length ps) count)))
            (b ∙ ap (nat_lt most_related) same)

    pub query_kind : (fails : Bool) (x : List ℕ) (label : Option LabelLine) → l.form ≡ QueryForm fails x
        → label_named w.labels x ≡ label
        → first_fault ((is_none label, Unknown) ∷ (nat_le most_queries (length old.queries.items), Count) ∷ (fails && is_no_assert label, Label) ∷ [])
        ≡ kind_below w above l
    query_kind fails x label e k =
        ap (λ n. first_fault ((is_none label, Unknown) ∷ (nat_le most_queries n, Count) ∷ (fails && is_no_assert label, Label) ∷ [])) (asked_above w above old h)
        ∙ ap (λ o. first_fault (query_conditions above fails o)) (sym k)
        ∙ sym (kind_at w above l (QueryForm fails x) e)

    -- of a label with this row
    pub query_told : (fails : Bool) (x : List ℕ) (row : LabelRow) → l.form ≡ QueryForm fails x
        → Some row ≡ option_map label_row (label_named w.labels x)
        → first_fault ((nat_le most_queries (length old.queries.items), Count) ∷ (fails && not row.asserts, Label) ∷ []) ≡ kind_below w above l
    query_told fails x row e r = go (label_named w.labels x) refl r
      where
        go : (label : Option LabelLine) → label_named w.labels x ≡ label → Some row ≡ option_map label_row label
            → first_fault ((nat_le most_queries (length old.queries.items), Count) ∷ (fails && not row.asserts, Label) ∷ []) ≡ kind_below w above l
        go None k s = cc
        go (Some b) k s =
            let same : row ≡ label_row b = cc s in
            ap (λ (i : LabelRow). first_fault ((nat_le most_queries (length old.queries.items), Count) ∷ (fails && not i.asserts, Label) ∷ [])) same
            ∙ query_kind fails x (Some b) e k

-- the line of a label with this row
pub line_told : (w : Whole) (x : List ℕ) (row : LabelRow) → Some row ≡ option_map label_row (label_named w.labels x) → row.line ≡ line_of_label w x
line_told w x row r = go (label_named w.labels x) r
  where
    go : (label : Option LabelLine) → Some row ≡ option_map label_row label → row.line ≡ unwrap_or (option_map (λ (l : LabelLine). l.line) label) 0
    go None s = cc
    go (Some b) s = let same : row ≡ label_row b = cc s in ap (λ (i : LabelRow). i.line) same
