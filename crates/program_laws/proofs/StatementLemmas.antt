-- What each statement names and counts fits its program.
use Rattle.std.proofs.Common.{◌≡◌, ◌⊎◌, inl, inr, ℕ, zero, suc, ◌+◌, Bool, true, false, not, ◌||◌, List, [], ◌∷◌, ◌++◌, map, length, None, Some, Option, refl, sym, ap, ◌∙◌, subst, arith, flat_map}
use Rattle.std.specs.Prelude.{slice_get, option_map, unwrap_or, is_none, ◌==◌, bytes_eq}
use Rattle.std.proofs.lemmas.Bool.{or_parts, eqb-true}
use Rattle.std.proofs.lemmas.Option.{same_Some}
use Rattle.std.proofs.lemmas.List.{length-map, length-append}
use Rattle.document_forms.specs.Names.{number_in}
use Rattle.document_forms.specs.Weights.{TreeValue}
use Rattle.document_forms.specs.Kinds.{value_names}
use Rattle.boolean_programs.specs.declared.point.Point.{Point}
use Rattle.boolean_programs.specs.declared.program.Proc.{Proc}
use Rattle.boolean_programs.specs.declared.program.Program.{Program as ParsedProgram}
use Rattle.boolean_programs.specs.declared.statement.Statement.{Statement}
use Rattle.boolean_programs.specs.declared.statement.Statement.TheVariants.{Skip, Assign, Goto, Assume, Assert, Call, Return, If, Else, While, EndIf, EndWhile, EndProc}
use Rattle.boolean_programs.specs.Programs.{procedure_of, program_of, width}
use Rattle.boolean_programs.specs.Lists.{Each}
use Rattle.boolean_programs.specs.Structure.{OnLine, FitsStatement}
use Rattle.program_forms.specs.Forms.{StatementForm, SkipForm, AssignForm, GotoForm, AssumeForm, AssertForm, CallForm, ReturnForm, IfForm, WhileForm}
use Rattle.program_forms.specs.Declared.{ProcHead, proc_named, LabelLine, label_named, Whole}
use Rattle.program_forms.specs.Kinds.{misfits_callee, is_elsewhere}
use Rattle.program_forms.specs.Programs.{choice_of, line_of_label, place_of_proc, statement_value}
use Rattle.program_laws.proofs.ListLemmas.{found, none_passes, get_mapped, get_map}
use Rattle.program_laws.proofs.KindLemmas.{is_held}
use Rattle.program_laws.proofs.NumberLemmas.{numbers_below, known_parts, numbers_once, value_over, values_over, known_of_one, small_of_one}
use Rattle.program_laws.proofs.WalkLemmas.{head, heads}
use Rattle.program_laws.proofs.LabelLemmas.{Bears}
use Rattle.program_laws.proofs.SoundLemmas.{IsSoundForm, is_mere, IsSoundLine}

-- ---- procedures and labels by their names

pub head_at : (base : ℕ) (qs : List Proc) (k : ℕ) (h : ProcHead) → slice_get (heads base qs) k ≡ Some h → (q : Proc) × (slice_get qs k ≡ Some q) × (head (base + k) q ≡ h)
head_at base [] k h e = cc
head_at base (q ∷ qs) zero h e = let at : base + 0 ≡ base = omega arith in (q, refl, ap (λ n. head n q) at ∙ same_Some (head base q) h e)
head_at base (q ∷ qs) (suc k) h e =
    let more = head_at (suc base) qs k h e in
    let at : base + suc k ≡ suc base + k = omega arith in
    (more.0, more.1, ap (λ n. head n more.0) at ∙ more.2)

-- one that is found where it isn't missing
something : {X : Type 0} (o : Option X) → is_none o ≡ false → (x : X) × (o ≡ Some x)
something None h = cc
something (Some x) h = (x, refl)

-- ---- in a program with these procedures and names

module _ (w : Whole) (qs : List Proc) (asked : List Point) (told : heads 0 qs ≡ w.procs) (borne : Each (Bears qs) w.labels) where
  abbrev pub made : ParsedProgram
  made = record { globals = w.globals; procs = qs; queries = asked }

  pub callee_at : (f : List ℕ) → is_none (proc_named w.procs f) ≡ false → (h : ProcHead) × (q : Proc) × (proc_named w.procs f ≡ Some h) × (slice_get qs h.place ≡ Some q) × (q.params ≡ h.params) × (q.returns ≡ h.returns)
  callee_at f n =
      let h = something (proc_named w.procs f) n in
      let k = found (λ (p : ProcHead). bytes_eq f p.name) w.procs h.0 h.1 in
      let q = head_at 0 qs k.0 h.0 (ap (λ hs. slice_get hs k.0) told ∙ k.1) in
      let place : k.0 ≡ h.0.place = let e : 0 + k.0 ≡ h.0.place = ap (λ (x : ProcHead). x.place) q.2 in omega arith in
      (h.0, q.0, h.1, ap (slice_get qs) (sym place) ∙ q.1, ap (λ (x : ProcHead). x.params) q.2, ap (λ (x : ProcHead). x.returns) q.2)

  -- the label of a name that is declared is on a line of the procedure of its number
  pub bearer_of : (x : List ℕ) (l : LabelLine) → label_named w.labels x ≡ Some l → Bears qs l
  bearer_of x l e = let k = found (λ (m : LabelLine). bytes_eq x m.name) w.labels l e in borne k.0 l k.1

  label_on : (k : ℕ) (q : Proc) → slice_get qs k ≡ Some q → (x : List ℕ) → is_none (label_named w.labels x) ≡ false → is_elsewhere (suc k) (label_named w.labels x) ≡ false → OnLine (procedure_of q) (line_of_label w x)
  label_on k q at x n stays =
      let l = something (label_named w.labels x) n in
      let b = bearer_of x l.0 l.1 in
      let here : not (l.0.begun == suc k) ≡ false = subst (λ o. is_elsewhere (suc k) o ≡ false) l.1 stays in
      let number : l.0.begun ≡ suc k = eqb-true l.0.begun (suc k) (is_held (l.0.begun == suc k) here) in
      let place : b.place ≡ k = let c = b.number in omega arith in
      let owner : b.owner ≡ q = same_Some b.owner q (sym b.found ∙ ap (slice_get qs) place ∙ at) in
      let line : line_of_label w x ≡ l.0.line = ap (λ o. unwrap_or (option_map (λ (m : LabelLine). m.line) o) 0) l.1 in
      (b.index, b.bearer, ap (λ (r : Proc). slice_get r.body b.index) (sym owner) ∙ b.there, b.same_line ∙ sym line)

  module _ (k : ℕ) (q : Proc) (at : slice_get qs k ≡ Some q) where
    abbrev names : List (List ℕ)
    names = w.globals ++ (q.params ++ q.locals)

    abbrev Fits : Statement → Type 0
    Fits st = FitsStatement (program_of made) (procedure_of q) (length names) st

    form_fits : (s : StatementForm) → IsSoundForm w (q.params ++ q.locals) q.returns (suc k) s → Fits (statement_value w names s)
    form_fits SkipForm f = tt
    form_fits (AssignForm xs vs) f =
        let known = known_parts names xs (flat_map value_names vs) f.known in (
          length-map xs (number_in names) ∙ eqb-true (length xs) (length vs) (is_held (length xs == length vs) f.arity) ∙ sym (length-map vs (choice_of names)),
          numbers_below names xs known.0,
          values_over names vs known.1 f.small,
          numbers_once names xs known.0 f.once,
        )
    form_fits (GotoForm xs) f = λ j m e.
        let x = get_mapped (line_of_label w) xs j m e in
        subst (OnLine (procedure_of q)) x.2
        (label_on k q at x.0 (none_passes (λ y. is_none (label_named w.labels y)) xs j x.0 f.told x.1) (none_passes (λ y. is_elsewhere (suc k) (label_named w.labels y)) xs j x.0 f.stays x.1))
    form_fits (AssumeForm e) f = value_over names (TreeValue e) (known_of_one names (TreeValue e) f.known) (small_of_one (TreeValue e) f.small)
    form_fits (AssertForm e) f = value_over names (TreeValue e) (known_of_one names (TreeValue e) f.known) (small_of_one (TreeValue e) f.small)
    form_fits (CallForm xs g vs) f =
        let c = callee_at g f.told in
        let known = known_parts names xs (flat_map value_names vs) f.known in
        let place : place_of_proc w g ≡ c.0.place = ap (λ o. unwrap_or (option_map (λ (p : ProcHead). p.place) o) 0) c.2 in
        let arity : misfits_callee (length xs) (length vs) c.0 ≡ false = subst (λ o. unwrap_or (option_map (misfits_callee (length xs) (length vs)) o) false ≡ false) c.2 f.arity in
        let parts = or_parts (not (length vs == length c.0.params)) (not (length xs == 0 || length xs == c.0.returns)) arity in
        let given : length vs ≡ length c.0.params = eqb-true (length vs) (length c.0.params) (is_held (length vs == length c.0.params) parts.0) in (
          procedure_of c.1,
          ap (slice_get (map procedure_of qs)) place ∙ get_map procedure_of qs c.0.place c.1 c.3,
          length-map vs (choice_of names) ∙ given ∙ ap length (sym c.4),
          targets_fit xs c.0.returns c.1.returns c.5 (is_held (length xs == 0 || length xs == c.0.returns) parts.1),
          numbers_below names xs known.0,
          values_over names vs known.1 f.small,
          numbers_once names xs known.0 f.once,
        )
      where
        none_left : (xs : List (List ℕ)) → length xs ≡ 0 → map (number_in names) xs ≡ []
        none_left [] e = refl
        none_left (x ∷ xs) e = absurd (omega arith)

        targets_fit : (xs : List (List ℕ)) (m n : ℕ) → n ≡ m → (length xs == 0 || length xs == m) ≡ true → (map (number_in names) xs ≡ []) ⊎ (length (map (number_in names) xs) ≡ n)
        targets_fit xs m n same h = go (length xs == 0) refl h
          where
            go : (b : Bool) → (length xs == 0) ≡ b → (b || length xs == m) ≡ true → (map (number_in names) xs ≡ []) ⊎ (length (map (number_in names) xs) ≡ n)
            go true e d = inl (none_left xs (eqb-true (length xs) 0 e))
            go false e d = inr (length-map xs (number_in names) ∙ eqb-true (length xs) m d ∙ sym same)
    form_fits (ReturnForm vs) f = (
      length-map vs (choice_of names) ∙ eqb-true (length vs) q.returns (is_held (length vs == q.returns) f.arity),
      values_over names vs f.known f.small,
    )
    form_fits (IfForm c) f = value_over names c (known_of_one names c f.known) (small_of_one c f.small)
    form_fits (WhileForm c) f = value_over names c (known_of_one names c f.known) (small_of_one c f.small)

    mere_fits : (st : Statement) → is_mere st ≡ true → Fits st
    mere_fits Else h = tt
    mere_fits EndIf h = tt
    mere_fits EndWhile h = tt
    mere_fits EndProc h = tt
    mere_fits Skip h = cc
    mere_fits (Assign targets values) h = cc
    mere_fits (Goto lines) h = cc
    mere_fits (Assume e) h = cc
    mere_fits (Assert e) h = cc
    mere_fits (Call targets callee arguments) h = cc
    mere_fits (Return values) h = cc
    mere_fits (If c) h = cc
    mere_fits (While c) h = cc

    pub line_fits : (st : Statement) → IsSoundLine w (q.params ++ q.locals) q.returns (suc k) st → FitsStatement (program_of made) (procedure_of q) (length w.globals + width (procedure_of q)) st
    line_fits st s =
        let many : length names ≡ length w.globals + (length q.params + length q.locals) = length-append w.globals (q.params ++ q.locals) ∙ ap (λ n. length w.globals + n) (length-append q.params q.locals) in
        subst (λ n. FitsStatement (program_of made) (procedure_of q) n st) many (by_form s)
      where
        by_form : IsSoundLine w (q.params ++ q.locals) q.returns (suc k) st → Fits st
        by_form (inl f) = subst Fits (sym f.1) (form_fits f.0 f.2)
        by_form (inr h) = mere_fits st h
