-- What a reading has, with a line more.
use Rattle.std.proofs.Common.{◌≡◌, ◌≤◌, ℕ, ◌+◌, Bool, false, cond, ◌||◌, List, [], ◌∷◌, ◌++◌, map, refl, sym, ap, ◌∙◌, append_assoc, append-nil, arith}
use Rattle.std.specs.Prelude.{flat_map, bytes_eq}
use Rattle.wpds_base.specs.Limits.{most_symbols, most_rules}
use Rattle.document_forms.specs.Names.{once, is_among}
use Rattle.document_reader.proofs.CallerLemmas.{once_again}
use Rattle.rule_reader.proofs.CallerLemmas.{any_push}
use Rattle.boolean_programs.specs.declared.program.Proc.{Proc}
use Rattle.program_forms.specs.Forms.{LineForm, GlobalForm, ProcForm, LocalForm, QueryForm}
use Rattle.program_forms.specs.Places.{Stated}
use Rattle.program_forms.specs.Declared.{globals_on, procs_on, labels_on, globals, ProcHead, LabelLine, Whole}
use Rattle.program_forms.specs.Above.{names_after, own_names, returns_after, own_returns, proc_names, label_names, points_on, rules_on, total, closes_proc, closed}
use Rattle.program_forms.specs.Programs.{procs_with, procs_in, asked_on, on_last, with_locals, with_body}
use Rattle.program_statements.specs.declared.reading.Scope.{Scope}
use Rattle.boolean_syntax.specs.declared.reading.Reading.{Reading}
use Rattle.boolean_syntax.specs.private.Readings.{HasSame, HasRead}
use Rattle.boolean_syntax.proofs.MoreLemmas.{count_more, globals_then, proc_names_then, label_names_then, own_names_then, own_returns_then, total_then, procs_then, queries_then}

-- a procedure that begins
abbrev pub proc_with : List ℕ → List (List ℕ) → ℕ → Proc
proc_with name ps n = record { name = name; params = ps; locals = []; returns = n; body = [] }

-- no lines more
pub none_added : (qs : List Proc) → on_last (with_body []) qs ≡ qs
none_added [] = refl
none_added (q ∷ []) = ap (λ b. record q { body = b } ∷ []) (append-nil q.body)
none_added (q ∷ r ∷ qs) = ap (λ l. q ∷ l) (none_added (r ∷ qs))

module _ (w : Whole) (ls : List Stated) (l : Stated) (old : Reading) (h : HasRead w ls old)
  where
    abbrev more : List Stated
    more = ls ++ l ∷ []

    module _ (f : LineForm) (e : l.form ≡ f)
      where
        same_globals : globals_on f ≡ [] → old.globals ≡ globals more
        same_globals n =
            h.globals_above
            ∙ sym (globals_then w ls l f e ∙ ap (λ g. once (flat_map (λ (m : Stated). globals_on m.form) ls ++ g)) n
            ∙ ap once (append-nil (flat_map (λ (m : Stated). globals_on m.form) ls)))

        same_procs : procs_on l.place.begun f ≡ [] → HasSame old.seen_procs (proc_names more)
        same_procs n x =
            h.procs_above x
            ∙ sym (ap (λ g. is_among g x) (proc_names_then w ls l f e ∙ ap (λ g. proc_names ls ++ map (λ (p : ProcHead). p.name) g) n ∙ append-nil (proc_names ls)))

        pub labels_same : labels_on l f ≡ [] → HasSame old.seen_labels (label_names more)
        labels_same n x =
            h.labels_above x
            ∙ sym (ap (λ g. is_among g x) (label_names_then w ls l f e ∙ ap (λ g. label_names ls ++ map (λ (b : LabelLine). b.name) g) n ∙ append-nil (label_names ls)))

        same_names : names_after (own_names ls) f ≡ own_names ls → old.scope.names ≡ w.globals ++ own_names more
        same_names n = h.names ∙ ap (λ g. w.globals ++ g) (sym (own_names_then w ls l f e ∙ n))

        same_returns : returns_after (own_returns ls) f ≡ own_returns ls → old.scope.returns ≡ own_returns more
        same_returns n = h.returns ∙ sym (own_returns_then w ls l f e ∙ n)

        same_points : points_on f ≡ 0 → old.points ≡ total points_on more
        same_points n = let t = total_then w ls l f e points_on in let p = h.points in omega (arith, t, p, n)

        same_rules : rules_on f ≡ 0 → old.rules ≡ total rules_on more
        same_rules n = let t = total_then w ls l f e rules_on in let p = h.rules in omega (arith, t, p, n)

        pub closed_then : closed more ≡ closed ls + cond (closes_proc f l.place.blocks) 1 0
        closed_then =
            count_more (λ (m : Stated). closes_proc m.form m.place.blocks) ls l
            ∙ ap (λ g. closed ls + cond (closes_proc g l.place.blocks) 1 0) e

        -- how many procedures have ended then
        pub closed_now : closed more ≡ old.closed + cond (closes_proc f l.place.blocks) 1 0
        closed_now = closed_then ∙ ap (λ n. n + cond (closes_proc f l.place.blocks) 1 0) (sym h.closed_above)

        same_closed : closes_proc f l.place.blocks ≡ false → old.closed ≡ closed more
        same_closed n =
            let t = closed_then ∙ ap (λ b. closed ls + cond b 1 0) n in
            let p = h.closed_above in omega (arith, t, p)

        same_list : procs_with w ls l f (procs_in w ls) ≡ procs_in w ls → old.procs ≡ procs_in w more
        same_list n = h.procs ∙ sym (procs_then w ls l f e ∙ n)

        same_queries : asked_on w f ≡ [] → old.queries.items ≡ flat_map (λ (m : Stated). asked_on w m.form) more
        same_queries n =
            h.queries
            ∙ sym (queries_then w ls l f e ∙ ap (λ g. flat_map (λ (m : Stated). asked_on w m.form) ls ++ g) n
            ∙ append-nil (flat_map (λ (m : Stated). asked_on w m.form) ls))

    pub globals_taken : (xs g : List (List ℕ)) → l.form ≡ GlobalForm xs → g ≡ once (old.globals ++ xs) → HasRead w more (record old { globals = g })
    globals_taken xs g e n =
        let f = GlobalForm xs in
        record {
          globals_above =
              n ∙ ap (λ k. once (k ++ xs)) h.globals_above ∙ once_again (flat_map (λ (m : Stated). globals_on m.form) ls) xs
              ∙ sym (globals_then w ls l f e);
          procs_above = same_procs f e refl;
          labels_above = labels_same f e refl;
          names = same_names f e refl;
          returns = same_returns f e refl;
          points = same_points f e refl;
          rules = same_rules f e refl;
          few_points = h.few_points;
          few_rules = h.few_rules;
          closed_above = same_closed f e refl;
          procs = same_list f e (none_added (procs_in w ls));
          queries = same_queries f e refl;
        }

    pub proc_taken : (name : List ℕ) (ps : List (List ℕ)) (n : ℕ) (seen names : List (List ℕ)) (qs : List Proc)
        → l.form ≡ ProcForm name ps n
        → ((x : List ℕ) → is_among seen x ≡ is_among (old.seen_procs ++ name ∷ []) x)
        → names ≡ w.globals ++ ps
        → qs ≡ old.procs ++ record { name = name; params = ps; locals = []; returns = n; body = [] } ∷ []
        → HasRead w more (record old { seen_procs = seen; scope = record { names = names; returns = n }; procs = qs })
    proc_taken name ps n seen names qs e s k q =
        let f = ProcForm name ps n in
        record {
          globals_above = same_globals f e refl;
          procs_above = λ x. s x ∙ joined x old.seen_procs (proc_names ls) (h.procs_above x) ∙ sym (ap (λ g. is_among g x) (proc_names_then w ls l f e));
          labels_above = labels_same f e refl;
          names = k ∙ ap (λ g. w.globals ++ g) (sym (own_names_then w ls l f e));
          returns = sym (own_returns_then w ls l f e);
          points = same_points f e refl;
          rules = same_rules f e refl;
          few_points = h.few_points;
          few_rules = h.few_rules;
          closed_above = same_closed f e refl;
          procs = q ∙ ap (λ g. g ++ record { name = name; params = ps; locals = []; returns = n; body = [] } ∷ []) h.procs ∙ sym (procs_then w ls l f e);
          queries = same_queries f e refl;
        }
      where
        joined : (x : List ℕ) (a b : List (List ℕ)) → is_among a x ≡ is_among b x → is_among (a ++ name ∷ []) x ≡ is_among (b ++ name ∷ []) x
        joined x a b m = any_push (bytes_eq x) a name ∙ ap (λ t. t || bytes_eq x name) m ∙ sym (any_push (bytes_eq x) b name)

    pub locals_taken : (xs names : List (List ℕ)) (qs : List Proc) → l.form ≡ LocalForm xs → names ≡ (w.globals ++ own_names ls) ++ xs
        → qs ≡ on_last (with_locals xs) old.procs
        → HasRead w more (record old { scope = record { names = names; returns = old.scope.returns }; procs = qs })
    locals_taken xs names qs e k q =
        let f = LocalForm xs in
        record {
          globals_above = same_globals f e refl;
          procs_above = same_procs f e refl;
          labels_above = labels_same f e refl;
          names = k ∙ append_assoc w.globals (own_names ls) xs ∙ ap (λ g. w.globals ++ g) (sym (own_names_then w ls l f e));
          returns = same_returns f e refl;
          points = same_points f e refl;
          rules = same_rules f e refl;
          few_points = h.few_points;
          few_rules = h.few_rules;
          closed_above = same_closed f e refl;
          procs = q ∙ ap (on_last (with_locals xs)) h.procs ∙ sym (procs_then w ls l f e);
          queries = same_queries f e refl;
        }

    -- a line of a body
    pub body_taken : (f : LineForm) (new : Reading) → l.form ≡ f
        → globals_on f ≡ [] → procs_on l.place.begun f ≡ [] → names_after (own_names ls) f ≡ own_names ls
        → returns_after (own_returns ls) f ≡ own_returns ls → asked_on w f ≡ []
        → new.globals ≡ old.globals → new.seen_procs ≡ old.seen_procs → HasSame new.seen_labels (label_names more)
        → new.scope ≡ old.scope → new.points ≡ old.points + points_on f → new.rules ≡ old.rules + rules_on f
        → new.points ≤ most_symbols → new.rules ≤ most_rules → new.closed ≡ closed more
        → new.procs ≡ procs_with w ls l f old.procs → new.queries.items ≡ old.queries.items
        → HasRead w more new
    body_taken f new e ng np nn nr na g p b s t r ft fr c q a = record {
      globals_above = g ∙ same_globals f e ng;
      procs_above = λ x. ap (λ k. is_among k x) p ∙ same_procs f e np x;
      labels_above = b;
      names = ap (λ (k : Scope). k.names) s ∙ same_names f e nn;
      returns = ap (λ (k : Scope). k.returns) s ∙ same_returns f e nr;
      points = let k = total_then w ls l f e points_on in let h0 = h.points in omega (arith, t, k, h0);
      rules = let k = total_then w ls l f e rules_on in let h0 = h.rules in omega (arith, r, k, h0);
      few_points = ft;
      few_rules = fr;
      closed_above = c;
      procs = q ∙ ap (procs_with w ls l f) h.procs ∙ sym (procs_then w ls l f e);
      queries = a ∙ same_queries f e na;
    }

    pub query_taken : (fails : Bool) (x : List ℕ) (new : Reading) → l.form ≡ QueryForm fails x
        → new.globals ≡ old.globals → new.seen_procs ≡ old.seen_procs → new.seen_labels ≡ old.seen_labels
        → new.scope ≡ old.scope → new.points ≡ old.points → new.rules ≡ old.rules → new.closed ≡ old.closed
        → new.procs ≡ old.procs → new.queries.items ≡ old.queries.items ++ asked_on w (QueryForm fails x)
        → HasRead w more new
    query_taken fails x new e g p b s t r c q a =
        let f = QueryForm fails x in
        record {
          globals_above = g ∙ same_globals f e refl;
          procs_above = λ y. ap (λ k. is_among k y) p ∙ same_procs f e refl y;
          labels_above = λ y. ap (λ k. is_among k y) b ∙ labels_same f e refl y;
          names = ap (λ (k : Scope). k.names) s ∙ same_names f e refl;
          returns = ap (λ (k : Scope). k.returns) s ∙ same_returns f e refl;
          points = t ∙ same_points f e refl;
          rules = r ∙ same_rules f e refl;
          few_points = let h0 = h.few_points in omega (arith, t, h0);
          few_rules = let h0 = h.few_rules in omega (arith, r, h0);
          closed_above = c ∙ same_closed f e refl;
          procs = q ∙ same_list f e (none_added (procs_in w ls));
          queries = a ∙ ap (λ k. k ++ asked_on w f) h.queries ∙ sym (queries_then w ls l f e);
        }
