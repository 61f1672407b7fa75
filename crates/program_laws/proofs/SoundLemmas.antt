-- Each procedure has few names, main takes and returns nothing, and each body line has none of the conditions of its form.
use Rattle.std.proofs.Common.{◌≡◌, ◌⊎◌, inl, inr, ℕ, suc, ◌+◌, ◌≤◌, Bool, true, false, not, List, [], ◌∷◌, ◌++◌, length, None, Option, refl, sym, ap, ◌∙◌, subst, arith}
use Rattle.std.specs.Prelude.{◌||◌, ◌&&◌, ◌==◌}
use Rattle.std.specs.List.{list_any}
use Rattle.std.proofs.lemmas.Bool.{or_parts, and_parts, ltb-false, eqb-true}
use Rattle.std.proofs.lemmas.List.{length-append}
use Rattle.wpds_base.specs.Limits.{most_related}
use Rattle.wpds_port.specs.declared.Kind.TheVariants.{Twice, Arity, TooWide}
use Rattle.truth_tables.specs.Grammar.{has_large_table}
use Rattle.document_forms.specs.Names.{is_among, has_twice, has_unknown}
use Rattle.boolean_programs.specs.declared.program.Proc.{Proc}
use Rattle.boolean_programs.specs.declared.program.BodyLine.{BodyLine}
use Rattle.boolean_programs.specs.declared.statement.Statement.{Statement}
use Rattle.boolean_programs.specs.declared.statement.Statement.TheVariants.{Else, EndIf, EndWhile, EndProc}
use Rattle.boolean_programs.specs.Lists.{Each}
use Rattle.boolean_programs.specs.Structure.{Block, InIf, InElse, InWhile}
use Rattle.program_forms.specs.Forms.{StatementForm, ProcForm, LocalForm, Stating}
use Rattle.program_forms.specs.Places.{Place, Stated}
use Rattle.program_forms.specs.Declared.{Whole}
use Rattle.program_forms.specs.Above.{own_names, proc_names, label_names}
use Rattle.program_forms.specs.Kinds.{has_known, targets, variables, trees, is_too_wide, is_main, has_no_end, misfits, leaves, listed}
use Rattle.program_forms.specs.Programs.{statement_value, end_of, body_line, with_body, with_locals}
use Rattle.program_laws.proofs.ListLemmas.{EachAt, each_at_more, each_more, each_none}
use Rattle.program_laws.proofs.KindLemmas.{is_held, first_false, statement_fine}
use Rattle.program_laws.proofs.WalkLemmas.{Keeps, IsAccepted, IsOpen, fresh}

-- ---- one procedure

-- The statement has none of the conditions of its form: in a procedure with these names, which returns so many values
-- and is the one of this number.
pub record IsSoundForm (w : Whole) (names : List (List ℕ)) (returns begun : ℕ) (s : StatementForm) : Type 0 where
  pub once : has_twice (targets s) ≡ false
  pub known : has_unknown (w.globals ++ names) (variables s) ≡ false
  pub told : has_no_end w s ≡ false
  pub small : list_any has_large_table (trees s) ≡ false
  pub arity : misfits w returns s ≡ false
  pub stays : leaves w begun s ≡ false

-- a line that names nothing
abbrev pub is_mere : Statement → Bool
is_mere Else = true
is_mere EndIf = true
is_mere EndWhile = true
is_mere EndProc = true
is_mere s = false

abbrev pub IsSoundLine : Whole → List (List ℕ) → ℕ → ℕ → Statement → Type 0
IsSoundLine w names returns begun st =
    ((s : StatementForm) × (st ≡ statement_value w (w.globals ++ names) s) × IsSoundForm w names returns begun s) ⊎ (is_mere st ≡ true)

pub record IsSound (w : Whole) (k : ℕ) (q : Proc) : Type 0 where
  pub narrow : length w.globals + w.slots + (length q.params + length q.locals) ≤ most_related
  pub main : is_main q.name ≡ true → (length q.params ≡ 0) × (q.returns ≡ 0)
  pub lines : Each (λ (b : BodyLine). IsSoundLine w (q.params ++ q.locals) q.returns (suc k) b.statement) q.body

abbrev pub AreSound : Whole → ℕ → List Stated → List Proc → Type 0
AreSound w n above qs = EachAt (IsSound w) qs

abbrev pub AreSoundWith : Whole → ℕ → List Stated → List Block → List Proc → Proc → Type 0
AreSoundWith w n above blocks done last = EachAt (IsSound w) done × IsSound w (length done) last

-- ---- its lines

module _ (w : Whole) where
  sound_fresh : (n : ℕ) (above : List Stated) (p : Place) (m k : ℕ) (g : List ℕ) (ps : List (List ℕ)) (r : ℕ) → IsAccepted w n above p m (ProcForm g ps r) → IsSound w k (fresh g ps r)
  sound_fresh n above p m k g ps r a =
      let twice = first_false (is_among (proc_names above) g || has_twice ps || has_known w.globals ps) Twice ((is_main g && not (length ps == 0 && r == 0), Arity) ∷ (is_too_wide w (length ps), TooWide) ∷ []) a.kind in
      let arity = first_false (is_main g && not (length ps == 0 && r == 0)) Arity ((is_too_wide w (length ps), TooWide) ∷ []) twice.1 in
      let few = ltb-false most_related (length w.globals + w.slots + length ps) (first_false (is_too_wide w (length ps)) TooWide [] arity.1).0 in
      record {
        narrow = omega arith;
        main = λ h. empty (is_main g) h arity.0;
        lines = each_none (λ (b : BodyLine). IsSoundLine w (ps ++ []) r (suc k) b.statement);
      }
    where
      empty : (b : Bool) → b ≡ true → (b && not (length ps == 0 && r == 0)) ≡ false → (length ps ≡ 0) × (r ≡ 0)
      empty true h e =
          let both = and_parts (length ps == 0) (r == 0) (is_held (length ps == 0 && r == 0) e) in
          (eqb-true (length ps) 0 both.0, eqb-true r 0 both.1)
      empty false h e = cc

  sound_named : (n : ℕ) (above : List Stated) (p : Place) (m k : ℕ) (last : Proc) (xs : List (List ℕ)) → IsAccepted w n above p m (LocalForm xs) → own_names above ≡ last.params ++ last.locals → last.body ≡ [] → IsSound w k last → IsSound w k (with_locals xs last)
  sound_named n above p m k last xs a names empty s =
      let own = own_names above in
      let twice = first_false (has_twice xs || has_known own xs || has_known w.globals xs) Twice ((is_too_wide w (length own + length xs), TooWide) ∷ []) a.kind in
      let few = ltb-false most_related (length w.globals + w.slots + (length own + length xs)) (first_false (is_too_wide w (length own + length xs)) TooWide [] twice.1).0 in
      let had : length own ≡ length last.params + length last.locals = ap length names ∙ length-append last.params last.locals in
      let more = length-append last.locals xs in
      record {
        narrow = omega arith;
        main = s.main;
        lines = subst (λ (ls : List BodyLine). Each (λ (b : BodyLine). IsSoundLine w (last.params ++ (last.locals ++ xs)) last.returns (suc k) b.statement) ls) (sym empty)
            (each_none (λ (b : BodyLine). IsSoundLine w (last.params ++ (last.locals ++ xs)) last.returns (suc k) b.statement));
      }

  -- with a body line more
  sound_more : (k : ℕ) (last : Proc) (m : ℕ) (label : Option (List ℕ)) (st : Statement) → IsSoundLine w (last.params ++ last.locals) last.returns (suc k) st → IsSound w k last → IsSound w k (with_body (body_line m label st) last)
  sound_more k last m label st here s = record {
    narrow = s.narrow;
    main = s.main;
    lines = each_more (λ (b : BodyLine). IsSoundLine w (last.params ++ last.locals) last.returns (suc k) b.statement) last.body (record { line = m; label = label; statement = st }) s.lines here;
  }

  sound_said : (n : ℕ) (above : List Stated) (p : Place) (done : List Proc) (last : Proc) (m : ℕ) (label : Option (List ℕ)) (s : StatementForm) → IsAccepted w n above p m (Stating label s) → IsOpen above p.begun p.heading done last
      → IsSoundLine w (last.params ++ last.locals) last.returns (suc (length done)) (statement_value w (w.globals ++ own_names above) s)
  sound_said n above p done last m label s a o =
      let fine = statement_fine w above p.begun label s a.kind in
      let known = or_parts (has_unknown (w.globals ++ own_names above) (variables s)) (has_no_end w s) fine.known in
      let number : p.begun ≡ suc (length done) = let c = o.count in omega arith in
      inl (
        s,
        ap (λ ns. statement_value w (w.globals ++ ns) s) o.names,
        record {
          once = (or_parts (has_known (label_names above) (listed label)) (has_twice (targets s)) fine.once).1;
          known = subst (λ ns. has_unknown (w.globals ++ ns) (variables s) ≡ false) o.names known.0;
          told = known.1;
          small = fine.small;
          arity = subst (λ r. misfits w r s ≡ false) o.returns fine.arity;
          stays = subst (λ k. leaves w k s ≡ false) number fine.stays;
        },
      )

  sound_closing : (bs : List Block) → is_mere (end_of bs) ≡ true
  sound_closing [] = refl
  sound_closing (InIf ∷ bs) = refl
  sound_closing (InElse ∷ bs) = refl
  sound_closing (InWhile ∷ bs) = refl

  pub procs_are_sound : Keeps w (AreSound w) (AreSoundWith w)
  procs_are_sound = record {
    outer = λ n above p qs m f a o c x. x;
    begin = λ n above p qs m g ps k a c x. (x, sound_fresh n above p m (length qs) g ps k a);
    name = λ n above p done last m xs a o e x. (x.0, sound_named n above p m (length done) last xs a o.names e x.1);
    say = λ n above p done last m label s a o x.
        (x.0, sound_more (length done) last m label (statement_value w (w.globals ++ own_names above) s) (sound_said n above p done last m label s a o) x.1);
    turn = λ n above p done last m bs a o x. (x.0, sound_more (length done) last m None Else (inr refl) x.1);
    close = λ n above p done last m b bs a o x. (x.0, sound_more (length done) last m None (end_of (b ∷ bs)) (inr (sound_closing (b ∷ bs))) x.1);
    end = λ n above p done last m a o x.
        each_at_more (IsSound w) done (with_body (body_line m None EndProc) last) x.0 (sound_more (length done) last m None EndProc (inr refl) x.1);
  }
