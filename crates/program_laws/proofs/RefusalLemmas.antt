-- What the reading of a text finds line by line is its first refusal, as it is defined over whole lines and their kinds.
use Rattle.std.proofs.Common.{◌≡◌, ◌↔◌, ◌⊎◌, inl, inr, ℕ, ◌+◌, Bool, true, false, cond, List, [], ◌∷◌, ◌++◌, length, fold, Option, Some, None, Ok, Err, refl, sym, ap, ◌∙◌}
use Rattle.std.specs.Prelude.{Result, not, option_map}
use Rattle.std.proofs.lemmas.List.Sums.{fold-append}
use Rattle.wpds_base.specs.Faults.{first_fault}
use Rattle.wpds_port.specs.declared.Kind.{Kind}
use Rattle.wpds_port.specs.declared.Kind.TheVariants.{TooLong, NotText, Form}
use Rattle.wpds_port.specs.declared.Refusal.{Refusal}
use Rattle.wpds_port.specs.Refusals.{refusal}
use Rattle.document_forms.specs.Lines.{lines}
use Rattle.document_forms.specs.Kinds.{Conditions}
use Rattle.document_forms.specs.Refused
use Rattle.document_forms.specs.Refused.{is_short}
use Rattle.document_forms.proofs.CallerLemmas.{rises, first_found}
use Rattle.boolean_programs.specs.declared.program.Program.{Program}
use Rattle.program_forms.specs.Forms.{LineForm, GlobalForm, ProcForm, LocalForm, Stating, ElseForm, EndForm, QueryForm}
use Rattle.program_forms.specs.Places.{Said, Place, at_top, Stated, fits, next_place, Judged, judged_form, judged, place_behind, judged_from, stated}
use Rattle.program_forms.specs.Declared.{Whole}
use Rattle.program_forms.specs.Kinds.{conditions}
use Rattle.program_forms.specs.FirstRefusal.{said_lines, body, place_below, form_conditions, line_conditions, end_conditions, missing_conditions, program_format, declared_in, FirstRefusal, first_refused, body_refusal, header_conditions, lines_refusal, refusal_of}
use Rattle.program_forms.specs.Programs.{program_of, read_as}

-- ---- the conditions of a line stand in the order of their kinds

form_rises : (w : Whole) (above : List Stated) (begun : ℕ) (f : LineForm) → rises 4 (conditions w above begun f) ≡ true
form_rises w above begun (GlobalForm xs) = refl
form_rises w above begun (ProcForm f ps n) = refl
form_rises w above begun (LocalForm xs) = refl
form_rises w above begun (Stating label s) = refl
form_rises w above begun ElseForm = refl
form_rises w above begun EndForm = refl
form_rises w above begun (QueryForm fails x) = refl

by_form_rises : (w : Whole) (above : List Stated) (o : Option LineForm) → rises 2 (form_conditions w above o) ≡ true
by_form_rises w above None = refl
by_form_rises w above (Some f) = form_rises w above (place_below above).begun f

line_rises : (w : Whole) (above : List Said) (l : Said) → rises 0 (line_conditions w above l) ≡ true
line_rises w [] l = refl
line_rises w (h ∷ above) l = by_form_rises w (stated (body (h ∷ above))) l.form

missing_rises : (w : Whole) (ls : List Said) → rises 0 (missing_conditions w ls) ≡ true
missing_rises w [] = refl
missing_rises w (h ∷ ls) = refl

-- ---- with a line more

-- the place behind lines that stand from this one on
abbrev place_from : Place → List Stated → Place
place_from p ls = fold (λ q l. next_place q l.form) p ls

stated_more : (p : Place) (pre : List Said) (l : Said)
    → stated (judged_from p (pre ++ l ∷ [])) ≡ stated (judged_from p pre) ++ stated (judged (place_from p (stated (judged_from p pre))) l ∷ [])
stated_more p [] l = refl
stated_more p (x ∷ pre) l = go (judged p x) (λ q. stated_more q pre l)
  where
    go : (j : Judged)
        → ((q : Place) → stated (judged_from q (pre ++ l ∷ [])) ≡ stated (judged_from q pre) ++ stated (judged (place_from q (stated (judged_from q pre))) l ∷ []))
        → stated (j ∷ judged_from (place_behind p j) (pre ++ l ∷ []))
        ≡ stated (j ∷ judged_from (place_behind p j) pre) ++ stated (judged (place_from p (stated (j ∷ judged_from (place_behind p j) pre))) l ∷ [])
    go (Ok s) more = ap (λ ss. s ∷ ss) (more (next_place p s.form))
    go (Err r) more = more p

-- ---- line by line

-- the lines behind the header that may stand where they do
abbrev stated_in : List Said → List Stated
stated_in pre = stated (judged_from at_top pre)

module _ (w : Whole) (h : Said) where
  -- what is found from here on, by the kinds of whole lines
  abbrev found_by_lines : (pre ls : List Said) → Option Refusal
  found_by_lines pre ls = Refused.first_refused (program_format w) (h ∷ pre) ls

  -- and by the places of those above
  abbrev found_by_places : (above : List Stated) → Place → List Said → Option Refusal
  found_by_places above p ls = first_refused w above (judged_from p ls)

  module _ (pre : List Said) (l : Said) (ls : List Said) where
    abbrev above : List Stated
    above = stated_in pre

    abbrev p : Place
    p = place_below (stated_in pre)

    -- what is found at the line, by its conditions, and by what it is judged to be
    abbrev by_conditions : Conditions → Option Refusal
    by_conditions cs = elim (first_fault cs) [ Some k ↦ Some (refusal l.number k) | None ↦ found_by_lines (pre ++ l ∷ []) ls ]

    abbrev by_judged : Judged → Option Refusal
    by_judged j = first_refused w above (j ∷ judged_from (place_behind p j) ls)

    -- where the line is accepted, the same is found below it
    abbrev GoesOn : Judged → Type 0
    GoesOn j = (s : Stated) → j ≡ Ok s → found_by_places (above ++ s ∷ []) (next_place p s.form) ls ≡ found_by_lines (pre ++ l ∷ []) ls

    here : (t : Bool) (o : Option LineForm) → GoesOn (cond t (judged_form p l.number o) (Err (l.number, NotText)))
        → by_judged (cond t (judged_form p l.number o) (Err (l.number, NotText))) ≡ by_conditions ((not t, NotText) ∷ form_conditions w above o)
    here false o more = refl
    here true None more = refl
    here true (Some f) more = by_fit (fits p f) more
      where
        s : Stated
        s = record { number = l.number; form = f; place = p }

        by_kind : (o : Option Kind) → found_by_places (above ++ s ∷ []) (next_place p f) ls ≡ found_by_lines (pre ++ l ∷ []) ls
            → (elim o as (λ _. Option Refusal) [ Some k ↦ Some (refusal l.number k) | None ↦ found_by_places (above ++ s ∷ []) (next_place p f) ls ])
            ≡ (elim o as (λ _. Option Refusal) [ Some k ↦ Some (refusal l.number k) | None ↦ found_by_lines (pre ++ l ∷ []) ls ])
        by_kind (Some k) e = refl
        by_kind None e = e

        by_fit : (b : Bool) → GoesOn (cond b (Ok s) (Err (l.number, Form))) → by_judged (cond b (Ok s) (Err (l.number, Form))) ≡ by_conditions ((not b, Form) ∷ conditions w above p.begun f)
        by_fit false more = refl
        by_fit true more = by_kind (first_fault (conditions w above p.begun f)) (more s refl)

  found_same : (pre ls : List Said) → found_by_places (stated_in pre) (place_below (stated_in pre)) ls ≡ found_by_lines pre ls
  found_same pre [] = refl
  found_same pre (l ∷ ls) = here pre l ls l.text l.form (λ s e. goes s e (found_same (pre ++ l ∷ []) ls))
    where
      goes : (s : Stated) → judged (place_below (stated_in pre)) l ≡ Ok s
          → found_by_places (stated_in (pre ++ l ∷ [])) (place_below (stated_in (pre ++ l ∷ []))) ls ≡ found_by_lines (pre ++ l ∷ []) ls
          → found_by_places (stated_in pre ++ s ∷ []) (next_place (place_below (stated_in pre)) s.form) ls ≡ found_by_lines (pre ++ l ∷ []) ls
      goes s e more =
          let with_line : stated_in (pre ++ l ∷ []) ≡ stated_in pre ++ s ∷ [] =
          stated_more at_top pre l ∙ ap (λ j. stated_in pre ++ stated (j ∷ [])) e in
          let behind = fold-append (λ (q : Place) (t : Stated). next_place q t.form) at_top (stated_in pre) (s ∷ []) in
          ap (λ q. found_by_places (stated_in pre ++ s ∷ []) q ls) (sym behind)
          ∙ ap (λ ss. found_by_places ss (place_below ss) ls) (sym with_line)
          ∙ more

-- ---- all lines

lines_found : (after : ℕ) (ls : List Said) → lines_refusal after ls ≡ Refused.refusal_in (program_format (declared_in ls)) after ls
lines_found after [] = refl
lines_found after (h ∷ ls) = by_header (first_fault (header_conditions h))
  where
    -- behind the header
    behind : Option Refusal → Option Refusal
    behind o = elim o [ Some r ↦ Some r | None ↦ option_map (refusal after) (first_fault (end_conditions (declared_in (h ∷ ls)) (stated (body (h ∷ ls))))) ]

    by_header : (o : Option Kind)
        → (elim o as (λ _. Option Refusal) [ Some k ↦ Some (refusal h.number k) | None ↦ body_refusal after (declared_in (h ∷ ls)) (body (h ∷ ls)) ])
        ≡ behind (elim o as (λ _. Option Refusal) [ Some k ↦ Some (refusal h.number k) | None ↦ found_by_lines (declared_in (h ∷ ls)) h [] ls ])
    by_header (Some k) = refl
    by_header None = ap behind (found_same (declared_in (h ∷ ls)) h [] ls)

found : (bytes : List ℕ) → refusal_of bytes ≡ Refused.refusal_of (program_format (declared_in (said_lines bytes))) bytes (said_lines bytes)
found bytes = ap by_length (lines_found (length (lines bytes) + 1) (said_lines bytes))
  where
    by_length : Option Refusal → Option Refusal
    by_length o = elim (is_short bytes) [ false ↦ Some (refusal 0 TooLong) | true ↦ o ]

first_refusal : (bytes : List ℕ) (r : Refusal) → (refusal_of bytes ≡ Some r) ↔ FirstRefusal bytes r
first_refusal bytes r =
    let w = declared_in (said_lines bytes) in
    let same = first_found (program_format w) (line_rises w) (missing_rises w) bytes (said_lines bytes) r in
    (λ e. same.0 (sym (found bytes) ∙ e), λ m. found bytes ∙ same.1 m)

-- ---- the reading

abbrev read_by : List ℕ → Option Refusal → Result Program Refusal
read_by bytes o = elim o [ Some r ↦ Err r | None ↦ Ok (program_of (stated (body (said_lines bytes)))) ]

pub refused_by_lines : (bytes : List ℕ) (r : Refusal) → (read_as bytes ≡ Err r) ↔ FirstRefusal bytes r
refused_by_lines bytes r =
    (λ e. (first_refusal bytes r).0 (go (refusal_of bytes) refl e), λ m. ap (read_by bytes) ((first_refusal bytes r).1 m))
  where
    go : (o : Option Refusal) → refusal_of bytes ≡ o → read_by bytes o ≡ Err r → refusal_of bytes ≡ Some r
    go (Some q) e s = let same : q ≡ r = cc in e ∙ ap Some same
    go None e s = cc

-- ---- one of both, and not both

pub one_of_both : (bytes : List ℕ) → ((p : Program) × (read_as bytes ≡ Ok p)) ⊎ ((r : Refusal) × FirstRefusal bytes r)
one_of_both bytes = go (read_as bytes) refl
  where
    go : (x : Result Program Refusal) → read_as bytes ≡ x → ((p : Program) × (read_as bytes ≡ Ok p)) ⊎ ((r : Refusal) × FirstRefusal bytes r)
    go (Ok p) e = inl (p, e)
    go (Err r) e = inr (r, (refused_by_lines bytes r).0 e)

pub never_both : (bytes : List ℕ) (p : Program) (r : Refusal) → read_as bytes ≡ Ok p → FirstRefusal bytes r → ⊥
never_both bytes p r e m = differ (sym e ∙ (refused_by_lines bytes r).1 m)
  where
    differ : Ok p ≡ Err r → ⊥
    differ d = cc

pub one_refusal : (bytes : List ℕ) (r q : Refusal) → FirstRefusal bytes r → FirstRefusal bytes q → r ≡ q
one_refusal bytes r q m n = inner (sym ((first_refusal bytes r).1 m) ∙ (first_refusal bytes q).1 n)
  where
    inner : Some r ≡ Some q → r ≡ q
    inner e = cc
