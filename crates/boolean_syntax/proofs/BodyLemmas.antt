-- The kinds of body lines, and what their blocks close.
use Rattle.std.proofs.Common.{◌≡◌, ◌≤◌, ℕ, ◌+◌, Bool, false, cond, ◌||◌, List, [], ◌∷◌, ◌++◌, map, Option, None, Some, refl, sym, ap, ap₂, ◌∙◌, subst, arith}
use Rattle.std.specs.Prelude.{nat_lt, bytes_eq}
use Rattle.std.specs.List.{list_any}
use Rattle.std.proofs.lemmas.Bool.{or_parts}
use Rattle.std.proofs.lemmas.List.Folds.{list_any-append}
use Rattle.wpds_base.specs.Faults.{first_fault}
use Rattle.wpds_base.specs.Limits.{most_symbols, most_rules}
use Rattle.wpds_port.specs.declared.Kind.{Kind}
use Rattle.wpds_port.specs.declared.Kind.TheVariants.{Twice, Unknown, WeightText, Count, Arity, Label}
use Rattle.truth_tables.specs.Grammar.{has_large_table}
use Rattle.document_forms.specs.Names.{is_among, has_twice, has_unknown}
use Rattle.program_forms.specs.Forms.{StatementForm, LineForm, Stating, ElseForm, EndForm}
use Rattle.program_forms.specs.Places.{Stated}
use Rattle.program_forms.specs.Declared.{globals_on, procs_on, LabelLine, label_by, labels_on, Whole}
use Rattle.program_forms.specs.Above.{names_after, own_names, returns_after, own_returns, label_names, points_on, rules_on, rules_by, closes_proc}
use Rattle.program_forms.specs.Kinds.{has_known, targets, variables, trees, is_deep, has_no_end, misfits, leaves, is_past_limits, listed}
use Rattle.program_forms.specs.FirstRefusal.{kind_below}
use Rattle.program_forms.specs.Programs.{statement_value, body_line, body_on, end_of, with_body, on_last, procs_with, asked_on}
use Rattle.boolean_programs.specs.declared.program.Proc.{Proc}
use Rattle.boolean_programs.specs.declared.statement.Statement.{Statement}
use Rattle.boolean_programs.specs.declared.statement.Statement.TheVariants.{Else}
use Rattle.boolean_syntax.specs.declared.reading.Reading.{Reading}
use Rattle.boolean_syntax.specs.private.Readings.{HasSame, HasRead, passes, IsTakenIn, IsAnswered}
use Rattle.boolean_syntax.proofs.KindLemmas.{kind_at, six, none_holds}
use Rattle.boolean_syntax.proofs.MoreLemmas.{label_names_then}
use Rattle.boolean_syntax.proofs.NameLemmas.{any_same}
use Rattle.boolean_syntax.proofs.ReadLemmas.{labels_same, closed_now, body_taken}

-- where no limit is passed, there are few
pub within : (points rules : ℕ) → passes points rules ≡ false → (points ≤ most_symbols) × (rules ≤ most_rules)
within points rules e =
    let p = or_parts (nat_lt most_symbols points) (nat_lt most_rules rules) e in
    (few most_symbols points p.0, few most_rules rules p.1)
  where
    few : (m n : ℕ) → nat_lt m n ≡ false → n ≤ m
    few m n f = grind (arith, f)

module _ (w : Whole) (above : List Stated) (l : Stated) (old : Reading) (h : HasRead w above old)
  where
    past : (f : LineForm) (points rules : ℕ) → points ≡ points_on f → rules ≡ rules_on f
        → passes (old.points + points) (old.rules + rules) ≡ is_past_limits above f
    past f points rules p r =
        ap₂ (λ a b. nat_lt most_symbols a || nat_lt most_rules b) (ap₂ (λ a b. a + b) h.points p) (ap₂ (λ a b. a + b) h.rules r)

    pub else_kind : l.form ≡ ElseForm → first_fault ((passes (old.points + 1) (old.rules + 1), Count) ∷ []) ≡ kind_below w above l
    else_kind e = ap (λ t. first_fault ((t, Count) ∷ [])) (past ElseForm 1 1 refl refl) ∙ sym (kind_at w above l ElseForm e)

    pub end_kind : l.form ≡ EndForm → first_fault ((passes (old.points + 1) (old.rules + 1), Count) ∷ []) ≡ kind_below w above l
    end_kind e = ap (λ t. first_fault ((t, Count) ∷ [])) (past EndForm 1 1 refl refl) ∙ sym (kind_at w above l EndForm e)

    pub statement_kind_is : (label : Option (List ℕ)) (s : StatementForm) (begun points rules : ℕ)
        (again twice unknown large deep over uneven leaving : Bool)
        → l.form ≡ Stating label s → l.place.begun ≡ begun
        → again ≡ has_known old.seen_labels (listed label)
        → twice ≡ has_twice (targets s)
        → unknown ≡ (has_unknown old.scope.names (variables s) || has_no_end w s)
        → large ≡ list_any has_large_table (trees s)
        → (large ≡ false → deep ≡ list_any is_deep (trees s))
        → points ≡ points_on (Stating label s) → rules ≡ rules_by s
        → over ≡ passes (old.points + points) (old.rules + rules)
        → (unknown ≡ false → uneven ≡ misfits w old.scope.returns s)
        → leaving ≡ leaves w begun s
        → first_fault ((again || twice, Twice) ∷ (unknown, Unknown) ∷ (large, WeightText) ∷ (deep || over, Count) ∷ (uneven, Arity) ∷ (leaving, Label) ∷ [])
        ≡ kind_below w above l
    statement_kind_is label s begun points rules again twice unknown large deep over uneven leaving e b a t u g d p r o m v =
        six (again || twice) unknown large (deep || over) uneven leaving _ _ _ _ _ _ Twice Unknown WeightText Count Arity Label
        (ap₂ (λ x y. x || y) (a ∙ any_same (is_among old.seen_labels) (is_among (label_names above)) (listed label) h.labels_above) t)
        known g
        (λ q. ap₂ (λ x y. x || y) (d (g ∙ q)) (o ∙ past (Stating label s) points rules p r))
        (λ k. m (known ∙ k) ∙ ap (λ n. misfits w n s) h.returns)
        (v ∙ ap (λ n. leaves w n s) (sym b))
        ∙ sym (kind_at w above l (Stating label s) e)
      where
        known : unknown ≡ (has_unknown (w.globals ++ own_names above) (variables s) || has_no_end w s)
        known = u ∙ ap (λ ns. has_unknown ns (variables s) || has_no_end w s) h.names

    -- a line of a block's or a procedure's frame
    module _ (f : LineForm) (n closed : ℕ) (s : Statement) (e : l.form ≡ f) (number : l.number ≡ n)
        (is : body_on w above l f ≡ body_line n None s) (points : points_on f ≡ 1) (rules : rules_on f ≡ 1)
        (globals : globals_on f ≡ []) (procs : procs_on l.place.begun f ≡ []) (labels : labels_on l f ≡ [])
        (names : names_after (own_names above) f ≡ own_names above) (returns : returns_after (own_returns above) f ≡ own_returns above)
        (asked : asked_on w f ≡ []) (with : (qs : List Proc) → procs_with w above l f qs ≡ on_last (with_body (body_on w above l f)) qs)
        (count : closed ≡ old.closed + cond (closes_proc f l.place.blocks) 1 0)
      where
        taken_with : (new : Reading)
            → new ≡ record old { points = old.points + 1; rules = old.rules + 1; closed = closed; procs = on_last (with_body (body_line n None s)) old.procs }
            → passes (old.points + 1) (old.rules + 1) ≡ false → HasRead w (above ++ l ∷ []) new
        taken_with new t p =
            let few = within (old.points + 1) (old.rules + 1) p in
            subst (HasRead w (above ++ l ∷ [])) (sym t)
            (body_taken w above l old h f
            (record old { points = old.points + 1; rules = old.rules + 1; closed = closed; procs = on_last (with_body (body_line n None s)) old.procs })
            e globals procs names returns asked refl refl (labels_same w above l old h f e labels) refl
            (ap (λ k. old.points + k) (sym points)) (ap (λ k. old.rules + k) (sym rules)) few.0 few.1
            (count ∙ sym (closed_now w above l old h f e))
            (sym (with old.procs ∙ ap (λ b. on_last (with_body b) old.procs) is)) refl)

        pub frame_taken : (new : Reading) (k : Option Kind)
            → IsTakenIn (record old { closed = closed }) new n s k
            → first_fault ((passes (old.points + 1) (old.rules + 1), Count) ∷ []) ≡ kind_below w above l
            → IsAnswered w above l new k
        frame_taken new None t is_kind = record {
          kind = t.kind ∙ is_kind;
          taken = taken_with new t.taken (none_holds (passes (old.points + 1) (old.rules + 1)) Count [] (sym t.kind)).0;
        }
        frame_taken new (Some k) t is_kind = record { kind = t.kind ∙ is_kind; taken = tt }

    pub else_taken : (new : Reading) (n : ℕ) (k : Option Kind) → l.form ≡ ElseForm → l.number ≡ n
        → IsTakenIn old new n Else k → IsAnswered w above l new k
    else_taken new n k e number t =
        frame_taken ElseForm n old.closed Else e number (ap (λ i. body_line i None Else) number) refl refl refl refl refl refl refl refl (λ qs. refl)
        (omega arith) new k t (else_kind e)

    pub end_taken : (new : Reading) (n more : ℕ) (s : Statement) (k : Option Kind) → l.form ≡ EndForm → l.number ≡ n
        → more ≡ cond (closes_proc EndForm l.place.blocks) 1 0 → s ≡ end_of l.place.blocks
        → IsTakenIn (record old { closed = old.closed + more }) new n s k → IsAnswered w above l new k
    end_taken new n more s k e number m is t =
        frame_taken EndForm n (old.closed + more) s e number (ap₂ (λ i x. body_line i None x) number (sym is)) refl refl refl refl refl refl refl refl (λ qs. refl)
        (ap (λ c. old.closed + c) m) new k t (end_kind e)

    -- ---- statements

    -- the names of a label more
    labels_more : (label : Option (List ℕ)) (s : StatementForm) (seen : List (List ℕ)) → l.form ≡ Stating label s
        → HasSame seen (old.seen_labels ++ listed label) → HasSame seen (label_names (above ++ l ∷ []))
    labels_more label s seen e same x =
        same x
        ∙ list_any-append (bytes_eq x) old.seen_labels (listed label)
        ∙ ap (λ b. b || is_among (listed label) x) (h.labels_above x)
        ∙ sym (list_any-append (bytes_eq x) (label_names above) (listed label))
        ∙ sym (ap (λ ns. is_among ns x) (label_names_then w above l (Stating label s) e ∙ ap (λ ns. label_names above ++ ns) (named label)))
      where
        named : (o : Option (List ℕ)) → map (λ (b : LabelLine). b.name) (label_by l o s) ≡ listed o
        named None = refl
        named (Some y) = refl

    pub statement_taken : (new : Reading) (label : Option (List ℕ)) (s : StatementForm) (n points rules : ℕ) (seen : List (List ℕ)) (value : Statement)
        → l.form ≡ Stating label s → l.number ≡ n → HasSame seen (old.seen_labels ++ listed label)
        → points ≡ points_on (Stating label s) → rules ≡ rules_by s
        → passes (old.points + points) (old.rules + rules) ≡ false
        → value ≡ statement_value w old.scope.names s
        → new ≡ record old {
          seen_labels = seen;
          points = old.points + points;
          rules = old.rules + rules;
          procs = on_last (with_body (body_line n label value)) old.procs;
        }
        → HasRead w (above ++ l ∷ []) new
    statement_taken new label s n points rules seen value e number same p r few v t =
        let f = Stating label s in
        let k = within (old.points + points) (old.rules + rules) few in
        subst (HasRead w (above ++ l ∷ [])) (sym t)
        (body_taken w above l old h f
        (record old { seen_labels = seen; points = old.points + points; rules = old.rules + rules; procs = on_last (with_body (body_line n label value)) old.procs })
        e refl refl refl refl refl refl refl (labels_more label s seen e same) refl
        (ap (λ i. old.points + i) p) (ap (λ i. old.rules + i) r) k.0 k.1
        (sym (closed_now w above l old h f e ∙ no_more))
        (ap (λ b. on_last (with_body b) old.procs)
        (ap₂ (λ i x. body_line i label x) (sym number) (v ∙ ap (λ ns. statement_value w ns s) h.names)))
        refl)
      where
        no_more : old.closed + 0 ≡ old.closed
        no_more = omega arith
