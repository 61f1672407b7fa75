-- Each label stands on a body line of its procedure.
use Rattle.std.proofs.Common.{◌≡◌, ◌⊎◌, inl, inr, ℕ, zero, suc, true, List, [], ◌∷◌, ◌++◌, length, None, Some, Option, refl, sym, ap, ◌∙◌, subst, arith, append-nil}
use Rattle.std.specs.Prelude.{slice_get}
use Rattle.std.proofs.lemmas.Option.{same_Some}
use Rattle.std.proofs.lemmas.Grind.{flat_map-append}
use Rattle.boolean_programs.specs.declared.program.Proc.{Proc}
use Rattle.boolean_programs.specs.declared.program.BodyLine.{BodyLine}
use Rattle.boolean_programs.specs.declared.statement.Statement.TheVariants.{Else, EndProc}
use Rattle.boolean_programs.specs.Lists.{Each}
use Rattle.boolean_programs.specs.Structure.{Block}
use Rattle.boolean_machine.specs.Lawful.{is_assert}
use Rattle.program_forms.specs.Forms.{StatementForm, SkipForm, AssignForm, GotoForm, AssumeForm, AssertForm, CallForm, ReturnForm, IfForm, WhileForm, LineForm, GlobalForm, ProcForm, LocalForm, Stating, ElseForm, EndForm, QueryForm}
use Rattle.program_forms.specs.Places.{Place, Stated}
use Rattle.program_forms.specs.Declared.{is_assert as is_assert_form, LabelLine, labels_on, labels, Whole}
use Rattle.program_forms.specs.Above.{own_names}
use Rattle.program_forms.specs.Programs.{statement_value, end_of, body_line, with_body, with_locals}
use Rattle.program_laws.proofs.ListLemmas.{each_joined, each_one, each_none, at_last, get_front}
use Rattle.program_laws.proofs.WalkLemmas.{line, Keeps, IsOpen, fresh, is_outer}

labels_more : (above : List Stated) (l : Stated) → labels (above ++ l ∷ []) ≡ labels above ++ labels_on l l.form
labels_more above l =
    flat_map-append (λ (m : Stated). labels_on m m.form) above (l ∷ []) ∙ ap (λ xs. labels above ++ xs) (append-nil (labels_on l l.form))

-- A body line bears the label: in the procedure of its number, on its line, with an assert if the label's line has one.
pub record Bears (qs : List Proc) (l : LabelLine) : Type 0 where
  pub place : ℕ
  pub number : suc place ≡ l.begun
  pub owner : Proc
  pub found : slice_get qs place ≡ Some owner
  pub index : ℕ
  pub bearer : BodyLine
  pub there : slice_get owner.body index ≡ Some bearer
  pub same_line : bearer.line ≡ l.line
  pub asserts : is_assert bearer.statement ≡ l.asserts

abbrev pub AreBorne : ℕ → List Stated → List Proc → Type 0
AreBorne n above qs = Each (Bears qs) (labels above)

abbrev pub AreBorneWith : ℕ → List Stated → List Block → List Proc → Proc → Type 0
AreBorneWith n above blocks done last = Each (Bears (done ++ last ∷ [])) (labels above)

bears_before : (qs : List Proc) (q : Proc) (l : LabelLine) → Bears qs l → Bears (qs ++ q ∷ []) l
bears_before qs q l b = record {
  place = b.place;
  number = b.number;
  owner = b.owner;
  found = get_front qs (q ∷ []) b.place b.owner b.found;
  index = b.index;
  bearer = b.bearer;
  there = b.there;
  same_line = b.same_line;
  asserts = b.asserts;
}

-- another last element
replaced : (done : List Proc) (last r : Proc) (k : ℕ) (q : Proc) → slice_get (done ++ last ∷ []) k ≡ Some q → (slice_get (done ++ r ∷ []) k ≡ Some q) ⊎ ((last ≡ q) × (slice_get (done ++ r ∷ []) k ≡ Some r))
replaced [] last r zero q e = inr (same_Some last q e, refl)
replaced [] last r (suc k) q e = cc
replaced (d ∷ done) last r zero q e = inl e
replaced (d ∷ done) last r (suc k) q e = replaced done last r k q e

bears_still : (done : List Proc) (last r : Proc) → ((k : ℕ) (b : BodyLine) → slice_get last.body k ≡ Some b → slice_get r.body k ≡ Some b) → (l : LabelLine) → Bears (done ++ last ∷ []) l → Bears (done ++ r ∷ []) l
bears_still done last r more l b = by_place (replaced done last r b.place b.owner b.found)
  where
    by_place : ((slice_get (done ++ r ∷ []) b.place ≡ Some b.owner) ⊎ ((last ≡ b.owner) × (slice_get (done ++ r ∷ []) b.place ≡ Some r))) → Bears (done ++ r ∷ []) l
    by_place (inl e) = record {
      place = b.place;
      number = b.number;
      owner = b.owner;
      found = e;
      index = b.index;
      bearer = b.bearer;
      there = b.there;
      same_line = b.same_line;
      asserts = b.asserts;
    }
    by_place (inr (same, e)) = record {
      place = b.place;
      number = b.number;
      owner = r;
      found = e;
      index = b.index;
      bearer = b.bearer;
      there = more b.index b.bearer (subst (λ (q : Proc). slice_get q.body b.index ≡ Some b.bearer) (sym same) b.there);
      same_line = b.same_line;
      asserts = b.asserts;
    }

with_label : (qs : List Proc) (above : List Stated) (l : Stated) → Each (Bears qs) (labels above) → Each (Bears qs) (labels_on l l.form) → Each (Bears qs) (labels (above ++ l ∷ []))
with_label qs above l had new = subst (λ (ls : List LabelLine). Each (Bears qs) ls) (sym (labels_more above l)) (each_joined (Bears qs) (labels above) (labels_on l l.form) had new)

none_on : (qs : List Proc) → Each (Bears qs) []
none_on qs = each_none (Bears qs)

outer_borne : (n : ℕ) (above : List Stated) (p : Place) (m : ℕ) (f : LineForm) (qs : List Proc) → is_outer f ≡ true → Each (Bears qs) (labels above) → Each (Bears qs) (labels (above ++ line p m f ∷ []))
outer_borne n above p m (GlobalForm xs) qs o had = with_label qs above (line p m (GlobalForm xs)) had (none_on qs)
outer_borne n above p m (QueryForm fails x) qs o had = with_label qs above (line p m (QueryForm fails x)) had (none_on qs)
outer_borne n above p m (ProcForm g ps k) qs o had = cc
outer_borne n above p m (LocalForm xs) qs o had = cc
outer_borne n above p m (Stating label s) qs o had = cc
outer_borne n above p m ElseForm qs o had = cc
outer_borne n above p m EndForm qs o had = cc

asserts_alike : (w : Whole) (names : List (List ℕ)) (s : StatementForm) → is_assert (statement_value w names s) ≡ is_assert_form s
asserts_alike w names SkipForm = refl
asserts_alike w names (AssignForm xs vs) = refl
asserts_alike w names (GotoForm xs) = refl
asserts_alike w names (AssumeForm e) = refl
asserts_alike w names (AssertForm e) = refl
asserts_alike w names (CallForm xs f vs) = refl
asserts_alike w names (ReturnForm vs) = refl
asserts_alike w names (IfForm c) = refl
asserts_alike w names (WhileForm c) = refl

-- with a body line more
body_borne : (done : List Proc) (last : Proc) (ls : List BodyLine) (xs : List LabelLine) → Each (Bears (done ++ last ∷ [])) xs → Each (Bears (done ++ with_body ls last ∷ [])) xs
body_borne done last ls xs had k l e = bears_still done last (with_body ls last) (λ j b h. get_front last.body ls j b h) l (had k l e)

on_line : (w : Whole) (n : ℕ) (above : List Stated) (p : Place) (done : List Proc) (last : Proc) (m : ℕ) (label : Option (List ℕ)) (s : StatementForm) → IsOpen above p.begun p.heading done last
    → Each (Bears (done ++ with_body (body_line m label (statement_value w (w.globals ++ own_names above) s)) last ∷ [])) (labels_on (line p m (Stating label s)) (Stating label s))
on_line w n above p done last m None s o = none_on (done ++ with_body (body_line m None (statement_value w (w.globals ++ own_names above) s)) last ∷ [])
on_line w n above p done last m (Some x) s o =
    let st = statement_value w (w.globals ++ own_names above) s in
    let b : BodyLine = record { line = m; label = Some x; statement = st } in
    let r = with_body (b ∷ []) last in
    each_one (Bears (done ++ r ∷ [])) (record { name = x; line = m; begun = p.begun; asserts = is_assert_form s }) (record {
      place = length done;
      number = let c = o.count in omega arith;
      owner = r;
      found = at_last done r;
      index = length last.body;
      bearer = b;
      there = at_last last.body b;
      same_line = refl;
      asserts = asserts_alike w (w.globals ++ own_names above) s;
    })

pub labels_are_borne : (w : Whole) → Keeps w AreBorne AreBorneWith
labels_are_borne w = record {
  outer = λ n above p qs m f a o c had. outer_borne n above p m f qs o had;
  begin = λ n above p qs m g ps k a c had.
      with_label (qs ++ fresh g ps k ∷ []) above (line p m (ProcForm g ps k)) (λ j l e. bears_before qs (fresh g ps k) l (had j l e)) (none_on (qs ++ fresh g ps k ∷ []));
  name = λ n above p done last m xs a o e had.
      with_label (done ++ with_locals xs last ∷ []) above (line p m (LocalForm xs)) (λ j l d. bears_still done last (with_locals xs last) (λ i b h. h) l (had j l d)) (none_on (done ++ with_locals xs last ∷ []));
  say = λ n above p done last m label s a o had.
      let ls = body_line m label (statement_value w (w.globals ++ own_names above) s) in
      with_label (done ++ with_body ls last ∷ []) above (line p m (Stating label s)) (body_borne done last ls (labels above) had) (on_line w n above p done last m label s o);
  turn = λ n above p done last m bs a o had.
      let ls = body_line m None Else in
      with_label (done ++ with_body ls last ∷ []) above (line p m ElseForm) (body_borne done last ls (labels above) had) (none_on (done ++ with_body ls last ∷ []));
  close = λ n above p done last m b bs a o had.
      let ls = body_line m None (end_of (b ∷ bs)) in
      with_label (done ++ with_body ls last ∷ []) above (line p m EndForm) (body_borne done last ls (labels above) had) (none_on (done ++ with_body ls last ∷ []));
  end = λ n above p done last m a o had.
      let ls = body_line m None EndProc in
      with_label (done ++ with_body ls last ∷ []) above (line p m EndForm) (body_borne done last ls (labels above) had) (none_on (done ++ with_body ls last ∷ []));
}
