-- The counts of points, rules and queries stay within their limits.
use Rattle.std.proofs.Common.{◌≡◌, ℕ, ◌+◌, ◌≤◌, true, false, cond, List, [], ◌∷◌, ◌++◌, length, None, Option, refl, sym, ap, ◌∙◌, subst, arith, count_by, sum_by}
use Rattle.std.specs.Prelude.{nat_lt, nat_le, is_none, ◌&&◌}
use Rattle.std.proofs.lemmas.Bool.{or_parts, ltb-false, leb-false}
use Rattle.std.proofs.lemmas.List.Sums.{sum_by-append}
use Rattle.std.proofs.lemmas.List.{length-append, length-map}
use Rattle.wpds_port.specs.declared.Kind.TheVariants.{Unknown, Count, Label}
use Rattle.std.specs.List.{list_any}
use Rattle.wpds_base.specs.Limits.{most_symbols, most_rules, most_queries}
use Rattle.boolean_programs.specs.declared.program.Proc.{Proc}
use Rattle.boolean_programs.specs.declared.program.BodyLine.{BodyLine}
use Rattle.boolean_programs.specs.declared.statement.Statement.{Statement}
use Rattle.boolean_programs.specs.declared.statement.Statement.TheVariants.{Else}
use Rattle.boolean_programs.specs.Structure.{Block, InIf, InElse, InWhile}
use Rattle.boolean_machine.specs.Lawful.{is_assert}
use Rattle.program_forms.specs.Forms.{StatementForm, SkipForm, AssignForm, GotoForm, AssumeForm, AssertForm, CallForm, ReturnForm, IfForm, WhileForm, LineForm, GlobalForm, ProcForm, LocalForm, Stating, ElseForm, EndForm, QueryForm}
use Rattle.program_forms.specs.Places.{Place, Stated}
use Rattle.program_forms.specs.Declared.{Whole, label_named}
use Rattle.program_forms.specs.Above.{own_names, points_on, rules_on, total, queries, is_query}
use Rattle.program_forms.specs.Kinds.{trees, is_deep, is_no_assert, is_past_limits}
use Rattle.program_forms.specs.Programs.{statement_value, line_of_label, end_of, body_line, with_body}
use Rattle.program_laws.specs.ReadPrograms.{rules_by}
use Rattle.program_laws.proofs.WalkLemmas.{line, Keeps, IsAccepted, is_outer}
use Rattle.program_laws.proofs.KindLemmas.{first_false, statement_fine}
use Rattle.program_laws.proofs.BodyLemmas.{bodies, bodies_with, bodies_fresh, bodies_named}

total_more : (f : LineForm → ℕ) (above : List Stated) (l : Stated) → total f (above ++ l ∷ []) ≡ total f above + f l.form
total_more f [] l = omega arith
total_more f (a ∷ above) l = let e = total_more f above l in omega arith

queries_more : (above : List Stated) (l : Stated) → queries (above ++ l ∷ []) ≡ queries above + cond (is_query l.form) 1 0
queries_more above l = let e = sum_by-append (λ (m : Stated). cond (is_query m.form) 1 0) above (l ∷ []) in omega arith

-- body lines are as many as the lines above make, and within the limits
pub record AreFew (above : List Stated) (ls : List BodyLine) : Type 0 where
  pub points : length ls + count_by (λ (l : BodyLine). is_assert l.statement) ls ≡ total points_on above
  pub few_points : total points_on above ≤ most_symbols
  pub rules : sum_by (λ (l : BodyLine). rules_by l.statement) ls ≡ total rules_on above
  pub few_rules : total rules_on above ≤ most_rules
  pub few_queries : queries above ≤ most_queries

abbrev pub AreFewIn : ℕ → List Stated → List Proc → Type 0
AreFewIn n above qs = AreFew above (bodies qs)

abbrev pub AreFewWith : ℕ → List Stated → List Block → List Proc → Proc → Type 0
AreFewWith n above blocks done last = AreFew above (bodies (done ++ last ∷ []))

-- a line that is no body line and no query
few_same : (above : List Stated) (l : Stated) (ls : List BodyLine) → points_on l.form ≡ 0 → rules_on l.form ≡ 0 → is_query l.form ≡ false → AreFew above ls → AreFew (above ++ l ∷ []) ls
few_same above l ls p r q few =
    let points = total_more points_on above l in
    let rules = total_more rules_on above l in
    let asked : queries (above ++ l ∷ []) ≡ queries above + 0 = queries_more above l ∙ ap (λ b. queries above + cond b 1 0) q in
    let had = few.points in
    let made = few.rules in
    let few_points = few.few_points in
    let few_rules = few.few_rules in
    let few_queries = few.few_queries in
    record { points = omega arith; few_points = omega arith; rules = omega arith; few_rules = omega arith; few_queries = omega arith }

-- a body line
few_more : (above : List Stated) (l : Stated) (ls : List BodyLine) (b : BodyLine) → points_on l.form ≡ 1 + cond (is_assert b.statement) 1 0 → rules_on l.form ≡ rules_by b.statement → is_query l.form ≡ false → is_past_limits above l.form ≡ false
    → AreFew above ls → AreFew (above ++ l ∷ []) (ls ++ b ∷ [])
few_more above l ls b p r q limits few =
    let points = total_more points_on above l in
    let rules = total_more rules_on above l in
    let asked : queries (above ++ l ∷ []) ≡ queries above + 0 = queries_more above l ∙ ap (λ c. queries above + cond c 1 0) q in
    let had = few.points in
    let made = few.rules in
    let few_queries = few.few_queries in
    let past = or_parts (nat_lt most_symbols (total points_on above + points_on l.form)) (nat_lt most_rules (total rules_on above + rules_on l.form)) limits in
    let few_points = ltb-false most_symbols (total points_on above + points_on l.form) past.0 in
    let few_rules = ltb-false most_rules (total rules_on above + rules_on l.form) past.1 in
    let long = length-append ls (b ∷ []) in
    let asserts = sum_by-append (λ (m : BodyLine). cond (is_assert m.statement) 1 0) ls (b ∷ []) in
    let ways = sum_by-append (λ (m : BodyLine). rules_by m.statement) ls (b ∷ []) in
    record { points = omega arith; few_points = omega arith; rules = omega arith; few_rules = omega arith; few_queries = omega arith }

stating_points : (w : Whole) (names : List (List ℕ)) (label : Option (List ℕ)) (s : StatementForm) → points_on (Stating label s) ≡ 1 + cond (is_assert (statement_value w names s)) 1 0
stating_points w names label SkipForm = refl
stating_points w names label (AssignForm xs vs) = refl
stating_points w names label (GotoForm xs) = refl
stating_points w names label (AssumeForm e) = refl
stating_points w names label (AssertForm e) = refl
stating_points w names label (CallForm xs f vs) = refl
stating_points w names label (ReturnForm vs) = refl
stating_points w names label (IfForm c) = refl
stating_points w names label (WhileForm c) = refl

stating_rules : (w : Whole) (names : List (List ℕ)) (label : Option (List ℕ)) (s : StatementForm) → rules_on (Stating label s) ≡ rules_by (statement_value w names s)
stating_rules w names label SkipForm = refl
stating_rules w names label (AssignForm xs vs) = refl
stating_rules w names label (GotoForm xs) = sym (length-map xs (line_of_label w))
stating_rules w names label (AssumeForm e) = refl
stating_rules w names label (AssertForm e) = refl
stating_rules w names label (CallForm xs f vs) = refl
stating_rules w names label (ReturnForm vs) = refl
stating_rules w names label (IfForm c) = refl
stating_rules w names label (WhileForm c) = refl

closing_points : (bs : List Block) → (is_assert (end_of bs) ≡ false) × (rules_by (end_of bs) ≡ 1)
closing_points [] = (refl, refl)
closing_points (InIf ∷ bs) = (refl, refl)
closing_points (InElse ∷ bs) = (refl, refl)
closing_points (InWhile ∷ bs) = (refl, refl)

module _ (w : Whole) where
  outer_few : (n : ℕ) (above : List Stated) (p : Place) (m : ℕ) (f : LineForm) (ls : List BodyLine) → IsAccepted w n above p m f → is_outer f ≡ true → AreFew above ls → AreFew (above ++ line p m f ∷ []) ls
  outer_few n above p m (GlobalForm xs) ls a o few = few_same above (line p m (GlobalForm xs)) ls refl refl refl few
  outer_few n above p m (QueryForm fails x) ls a o few =
      let l = line p m (QueryForm fails x) in
      let label = label_named w.labels x in
      let known = first_false (is_none label) Unknown ((nat_le most_queries (queries above), Count) ∷ (fails && is_no_assert label, Label) ∷ []) a.kind in
      let room = leb-false most_queries (queries above) (first_false (nat_le most_queries (queries above)) Count ((fails && is_no_assert label, Label) ∷ []) known.1).0 in
      let points = total_more points_on above l in
      let rules = total_more rules_on above l in
      let asked = queries_more above l in
      let had = few.points in
      let made = few.rules in
      let few_points = few.few_points in
      let few_rules = few.few_rules in
      record { points = omega arith; few_points = omega arith; rules = omega arith; few_rules = omega arith; few_queries = omega arith }
  outer_few n above p m (ProcForm g ps k) ls a o few = cc
  outer_few n above p m (LocalForm xs) ls a o few = cc
  outer_few n above p m (Stating label s) ls a o few = cc
  outer_few n above p m ElseForm ls a o few = cc
  outer_few n above p m EndForm ls a o few = cc

  said_few : (n : ℕ) (above : List Stated) (p : Place) (m : ℕ) (label : Option (List ℕ)) (s : StatementForm) → IsAccepted w n above p m (Stating label s) → is_past_limits above (Stating label s) ≡ false
  said_few n above p m label s a =
      (or_parts (list_any is_deep (trees s)) (is_past_limits above (Stating label s)) (statement_fine w above p.begun label s a.kind).few).1

  -- with a body line more
  body_few : (above : List Stated) (p : Place) (m : ℕ) (f : LineForm) (done : List Proc) (last : Proc) (label : Option (List ℕ)) (s : Statement) → points_on f ≡ 1 + cond (is_assert s) 1 0 → rules_on f ≡ rules_by s → is_query f ≡ false → is_past_limits above f ≡ false
      → AreFew above (bodies (done ++ last ∷ [])) → AreFew (above ++ line p m f ∷ []) (bodies (done ++ with_body (body_line m label s) last ∷ []))
  body_few above p m f done last label s points rules q limits few =
      subst (λ (ls : List BodyLine). AreFew (above ++ line p m f ∷ []) ls) (sym (bodies_with done last (body_line m label s)))
      (few_more above (line p m f) (bodies (done ++ last ∷ [])) (record { line = m; label = label; statement = s }) points rules q limits few)

  end_few : (above : List Stated) (p : Place) (m : ℕ) (done : List Proc) (last : Proc) (bs : List Block) (n : ℕ) → IsAccepted w n above p m EndForm → AreFew above (bodies (done ++ last ∷ []))
      → AreFew (above ++ line p m EndForm ∷ []) (bodies (done ++ with_body (body_line m None (end_of bs)) last ∷ []))
  end_few above p m done last bs n a few =
      let k = closing_points bs in
      body_few above p m EndForm done last None (end_of bs) (ap (λ b. 1 + cond b 1 0) (sym k.0)) (sym k.1) refl (first_false (is_past_limits above EndForm) Count [] a.kind).0 few

  pub counts_are_few : Keeps w AreFewIn AreFewWith
  counts_are_few = record {
    outer = λ n above p qs m f a o c few. outer_few n above p m f (bodies qs) a o few;
    begin = λ n above p qs m g ps k a c few.
        subst (λ (ls : List BodyLine). AreFew (above ++ line p m (ProcForm g ps k) ∷ []) ls) (sym (bodies_fresh qs g ps k)) (few_same above (line p m (ProcForm g ps k)) (bodies qs) refl refl refl few);
    name = λ n above p done last m xs a o e few.
        subst (λ (ls : List BodyLine). AreFew (above ++ line p m (LocalForm xs) ∷ []) ls) (sym (bodies_named done last xs)) (few_same above (line p m (LocalForm xs)) (bodies (done ++ last ∷ [])) refl refl refl few);
    say = λ n above p done last m label s a o few.
        let st = statement_value w (w.globals ++ own_names above) s in
        body_few above p m (Stating label s) done last label st (stating_points w (w.globals ++ own_names above) label s) (stating_rules w (w.globals ++ own_names above) label s) refl (said_few n above p m label s a) few;
    turn = λ n above p done last m bs a o few.
        body_few above p m ElseForm done last None Else refl refl refl (first_false (is_past_limits above ElseForm) Count [] a.kind).0 few;
    close = λ n above p done last m b bs a o few. end_few above p m done last (b ∷ bs) n a few;
    end = λ n above p done last m a o few. end_few above p m done last [] n a few;
  }

pub none_few : AreFew [] []
none_few = record { points = refl; few_points = omega arith; rules = refl; few_rules = omega arith; few_queries = omega arith }
