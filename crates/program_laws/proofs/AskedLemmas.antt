-- Each query asks for a label that is declared, and for a failure only of an assert.
use Rattle.std.proofs.Common.{◌≡◌, ℕ, Bool, true, false, not, cond, ◌&&◌, List, [], ◌∷◌, ◌++◌, length, None, Some, Option, refl, sym, ap, ◌∙◌, subst, arith, flat_map}
use Rattle.std.specs.Prelude.{option_map, unwrap_or, is_none, nat_le}
use Rattle.std.proofs.lemmas.List.{length-append}
use Rattle.std.proofs.lemmas.List.Concat.{flat_map-cons}
use Rattle.std.proofs.lemmas.List.Sums.{sum_by-append}
use Rattle.wpds_base.specs.Limits.{most_queries}
use Rattle.wpds_port.specs.declared.Kind.TheVariants.{Unknown, Count, Label}
use Rattle.boolean_programs.specs.declared.point.Point.{Point}
use Rattle.boolean_programs.specs.Lists.{Each}
use Rattle.program_forms.specs.Forms.{LineForm, GlobalForm, ProcForm, LocalForm, Stating, ElseForm, EndForm, QueryForm}
use Rattle.program_forms.specs.Places.{Place, Stated, next_place}
use Rattle.program_forms.specs.Declared.{LabelLine, label_named, Whole}
use Rattle.program_forms.specs.Above.{queries, is_query}
use Rattle.program_forms.specs.Kinds.{is_no_assert}
use Rattle.program_forms.specs.Programs.{line_of_label, asked_on}
use Rattle.program_laws.proofs.ListLemmas.{each_joined, each_one, each_none}
use Rattle.program_laws.proofs.KindLemmas.{is_held, first_false}
use Rattle.program_laws.proofs.WalkLemmas.{line, placed, IsAccepted, AreAccepted}

pub record IsAsked (w : Whole) (point : Point) : Type 0 where
  pub name : List ℕ
  pub label : LabelLine
  pub named : label_named w.labels name ≡ Some label
  pub same_line : point.line ≡ label.line
  pub asserts : point.failed ≡ true → label.asserts ≡ true

abbrev pub all_asked : Whole → List Stated → List Point
all_asked w ls = flat_map (λ (l : Stated). asked_on w l.form) ls

module _ (w : Whole) where
  query_asked : (n : ℕ) (above : List Stated) (p : Place) (m : ℕ) (fails : Bool) (x : List ℕ) → IsAccepted w n above p m (QueryForm fails x) → IsAsked w (record { line = line_of_label w x; failed = fails })
  query_asked n above p m fails x a =
      let label = label_named w.labels x in
      let known = first_false (is_none label) Unknown ((nat_le most_queries (queries above), Count) ∷ (fails && is_no_assert label, Label) ∷ []) a.kind in
      let room = first_false (nat_le most_queries (queries above)) Count ((fails && is_no_assert label, Label) ∷ []) known.1 in
      by_label label refl known.0 (first_false (fails && is_no_assert label) Label [] room.1).0
    where
      by_fails : (l : LabelLine) (b : Bool) → (b && not l.asserts) ≡ false → b ≡ true → l.asserts ≡ true
      by_fails l false h e = cc
      by_fails l true h e = is_held l.asserts h

      by_label : (o : Option LabelLine) → label_named w.labels x ≡ o → is_none o ≡ false → (fails && is_no_assert o) ≡ false → IsAsked w (record { line = line_of_label w x; failed = fails })
      by_label None e h g = cc
      by_label (Some l) e h g = record {
        name = x;
        label = l;
        named = e;
        same_line = ap (λ o. unwrap_or (option_map (λ (k : LabelLine). k.line) o) 0) e;
        asserts = by_fails l fails g;
      }

  line_asked : (n : ℕ) (above : List Stated) (p : Place) (m : ℕ) (f : LineForm) → IsAccepted w n above p m f → Each (IsAsked w) (asked_on w f)
  line_asked n above p m (QueryForm fails x) a = each_one (IsAsked w) (record { line = line_of_label w x; failed = fails }) (query_asked n above p m fails x a)
  line_asked n above p m (GlobalForm xs) a = each_none (IsAsked w)
  line_asked n above p m (ProcForm g ps k) a = each_none (IsAsked w)
  line_asked n above p m (LocalForm xs) a = each_none (IsAsked w)
  line_asked n above p m (Stating label s) a = each_none (IsAsked w)
  line_asked n above p m ElseForm a = each_none (IsAsked w)
  line_asked n above p m EndForm a = each_none (IsAsked w)

  pub lines_asked : (xs : List (ℕ × LineForm)) (n : ℕ) (above : List Stated) (p : Place) → AreAccepted w n above p xs → Each (IsAsked w) (all_asked w (placed p xs))
  lines_asked [] n above p a = each_none (IsAsked w)
  lines_asked (x ∷ xs) n above p a =
      let l = line p x.0 x.1 in
      subst (λ (ps : List Point). Each (IsAsked w) ps) (sym (flat_map-cons (λ (m : Stated). asked_on w m.form) l (placed (next_place p x.1) xs)))
      (each_joined (IsAsked w) (asked_on w x.1) (all_asked w (placed (next_place p x.1) xs)) (line_asked n above p x.0 x.1 a.0) (lines_asked xs x.0 (above ++ l ∷ []) (next_place p x.1) a.1))

  -- as many as there are queries
  one_asked : (f : LineForm) → length (asked_on w f) ≡ cond (is_query f) 1 0
  one_asked (QueryForm fails x) = refl
  one_asked (GlobalForm xs) = refl
  one_asked (ProcForm g ps k) = refl
  one_asked (LocalForm xs) = refl
  one_asked (Stating label s) = refl
  one_asked ElseForm = refl
  one_asked EndForm = refl

  pub many_asked : (ls : List Stated) → length (all_asked w ls) ≡ queries ls
  many_asked [] = refl
  many_asked (l ∷ ls) =
      let parts = ap (λ (ps : List Point). length ps) (flat_map-cons (λ (m : Stated). asked_on w m.form) l ls) ∙ length-append (asked_on w l.form) (all_asked w ls) in
      let counts = sum_by-append (λ (m : Stated). cond (is_query m.form) 1 0) (l ∷ []) ls in
      let one = one_asked l.form in
      let more = many_asked ls in
      omega arith
