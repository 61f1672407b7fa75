-- A reading with a line more.
use Rattle.std.proofs.Common.{◌≡◌, ℕ, Bool, true, false, not, cond, List, [], ◌∷◌, ◌++◌, map, Option, Some, None, refl, sym, ap, ap₂, ◌∙◌, append_assoc, append-nil}
use Rattle.std.specs.List.{cons_option}
use Rattle.std.proofs.lemmas.List.Elements.{filter_map-append}
use Rattle.wpds_base.specs.Faults.{first_fault}
use Rattle.wpds_port.specs.declared.Kind.{Kind}
use Rattle.wpds_port.specs.declared.Kind.TheVariants.{NotText}
use Rattle.wpds_port.specs.declared.Refusal.{Refusal}
use Rattle.wpds_port.specs.Refusals.{refusal}
use Rattle.document_forms.specs.Lines.{Line, is_text}
use Rattle.document_forms.specs.Forms.{WeightsForm, LineForm, OfWeights, line_form}
use Rattle.document_forms.specs.Above.{Above, above_of, with_line}
use Rattle.document_forms.specs.Kinds.{Conditions, conditions}
use Rattle.document_forms.specs.FirstRefusal.{Counted, counted, forms, by_form, kind_below, first_refused}
use Rattle.document_forms.specs.Documents.{rules_on, queries_on, gathered, body}
use Rattle.document_reader.specs.declared.reading.Reading.{Reading}
use Rattle.document_reader.specs.private.Readings.{kind_on, above_now, Takes, HasRead}

-- ---- lists of lines and forms, with one more

forms_first : (l : Counted) (f : LineForm) (ls : List Counted) → l.form ≡ Some f → forms (l ∷ ls) ≡ f ∷ forms ls
forms_first l f ls e = ap (λ o. cons_option o (forms ls)) e

forms_more : (ls : List Counted) (l : Counted) (f : LineForm) → l.form ≡ Some f → forms (ls ++ l ∷ []) ≡ forms ls ++ f ∷ []
forms_more ls l f e = filter_map-append (λ k. k.form) ls (l ∷ []) ∙ ap (λ fs. forms ls ++ fs) (forms_first l f [] e)

-- behind the header
body_more : (ls : List Counted) (l : Counted) (w f : LineForm) (fs : List LineForm) → body ls ≡ w ∷ fs → l.form ≡ Some f → body (ls ++ l ∷ []) ≡ body ls ++ f ∷ []
body_more [] l w f fs b e = cc
body_more (h ∷ ls) l w f fs b e = forms_more ls l f e

gathered_more : {A : Type 0} (g : Above → LineForm → List A) (above fs : List LineForm) (f : LineForm) → gathered g above (fs ++ f ∷ []) ≡ gathered g above fs ++ g (above_of (above ++ fs)) f
gathered_more g above [] f = append-nil (g (above_of above) f) ∙ ap (λ ls. g (above_of ls) f) (sym (append-nil above))
gathered_more g above (k ∷ fs) f =
    ap (λ xs. g (above_of above) k ++ xs) (gathered_more g (above ++ k ∷ []) fs f)
    ∙ sym (append_assoc (g (above_of above) k) (gathered g (above ++ k ∷ []) fs) (g (above_of ((above ++ k ∷ []) ++ fs)) f))
    ∙ ap (λ ls. gathered g above (k ∷ fs) ++ g (above_of ls) f) (append_assoc above (k ∷ []) fs)

-- ---- what is found behind accepted lines

-- what is found from a line on
abbrev found_at : ℕ → (pre ls : List Counted) (x : Counted) → Option Kind → Option Refusal
found_at all pre ls x o = elim o [
  | Some k ↦ Some (refusal x.number k)
  | None ↦ first_refused all (pre ++ x ∷ []) ls
]

found_behind : (all : ℕ) (pre ls ms : List Counted) → first_refused all pre ls ≡ None → first_refused all pre (ls ++ ms) ≡ first_refused all (pre ++ ls) ms
found_behind all pre [] ms h = ap (λ p. first_refused all p ms) (sym (append-nil pre))
found_behind all pre (x ∷ ls) ms h = go (kind_below all pre x) refl h (found_behind all (pre ++ x ∷ []) ls ms)
  where
    go :
        (o : Option Kind) → kind_below all pre x ≡ o → found_at all pre ls x o ≡ None
        → (first_refused all (pre ++ x ∷ []) ls ≡ None → first_refused all (pre ++ x ∷ []) (ls ++ ms) ≡ first_refused all ((pre ++ x ∷ []) ++ ls) ms)
        → found_at all pre (ls ++ ms) x o ≡ first_refused all (pre ++ x ∷ ls) ms
    go (Some k) e s more = cc
    go None e s more = more s ∙ ap (λ p. first_refused all p ms) (append_assoc pre (x ∷ []) ls)

pub found_here : (all : ℕ) (ls ms : List Counted) (l : Counted) (k : Kind) → first_refused all [] ls ≡ None → kind_below all ls l ≡ Some k → first_refused all [] (ls ++ l ∷ ms) ≡ Some (refusal l.number k)
found_here all ls ms l k h e = found_behind all [] ls (l ∷ ms) h ∙ ap (found_at all ls ms l) e

pub found_none : (all : ℕ) (ls : List Counted) (l : Counted) → first_refused all [] ls ≡ None → kind_below all ls l ≡ None → first_refused all [] (ls ++ l ∷ []) ≡ None
found_none all ls l h e = found_behind all [] ls (l ∷ []) h ∙ ap (found_at all ls [] l) e

-- ---- a line behind the second

-- the kind of a line is that by what is said above it
kind_behind : (all : ℕ) (ls : List Counted) (w : LineForm) (fs : List LineForm) (l : Line) → body ls ≡ w ∷ fs → kind_below all ls (counted l) ≡ kind_on all (above_of (body ls)) l.bytes
kind_behind all [] w fs l e = cc
kind_behind all (h ∷ []) w fs l e = cc
kind_behind all (h ∷ x ∷ us) w fs l e = refl

kind_now : (all : ℕ) (ls : List Counted) (r : Reading) (l : Line) → HasRead all ls r → kind_below all ls (counted l) ≡ kind_on all (above_now r) l.bytes
kind_now all ls r l h = kind_behind all ls (OfWeights h.begun.0) h.begun.1 l h.begun.2 ∙ ap (λ a. kind_on all a l.bytes) (sym h.above)

-- the line is refused
pub line_refused : (all : ℕ) (ls : List Counted) (r : Reading) (l : Line) (rest : List Line) (k : Kind) → HasRead all ls r → Some k ≡ kind_on all (above_now r) l.bytes → first_refused all [] (ls ++ map counted (l ∷ rest)) ≡ Some (refusal l.number k)
line_refused all ls r l rest k h e = found_here all ls (map counted rest) (counted l) k h.accepted (kind_now all ls r l h ∙ sym e)

-- a line that has no kind has a form that has none
first_false : (c : Bool × Kind) (cs : Conditions) → first_fault (c ∷ cs) ≡ None → first_fault cs ≡ None
first_false c cs h = go c.0 h
  where
    go : (t : Bool) → cond t (Some c.1) (first_fault cs) ≡ None → first_fault cs ≡ None
    go true s = cc
    go false s = s

form_accepted : (all : ℕ) (a : Above) (line : List ℕ) (f : LineForm) → line_form line ≡ Some f → kind_on all a line ≡ None → first_fault (conditions all a f) ≡ None
form_accepted all a line f e h =
    first_false (not (is_text line), NotText) (conditions all a f)
    (ap (λ o. first_fault ((not (is_text line), NotText) ∷ by_form (conditions all a) o)) (sym e) ∙ h)

-- the law on what is said with a line more
abbrev pub AboveMore : Type 0
AboveMore =
    (all : ℕ) (w : WeightsForm) (ls : List LineForm) (f : LineForm)
    → first_fault (conditions all (above_of (OfWeights w ∷ ls)) f) ≡ None
    → above_of ((OfWeights w ∷ ls) ++ f ∷ []) ≡ with_line (above_of (OfWeights w ∷ ls)) f

above_more : AboveMore → (all : ℕ) (gs : List LineForm) (w : WeightsForm) (fs : List LineForm) (f : LineForm) → gs ≡ OfWeights w ∷ fs → first_fault (conditions all (above_of gs) f) ≡ None → above_of (gs ++ f ∷ []) ≡ with_line (above_of gs) f
above_more law all gs w fs f e h =
    ap (λ g. above_of (g ++ f ∷ [])) e
    ∙ law all w fs f (ap (λ g. first_fault (conditions all (above_of g) f)) (sym e) ∙ h)
    ∙ ap (λ g. with_line (above_of g) f) (sym e)

-- what lines give with one more
gives_more : {A : Type 0} (g : Above → LineForm → List A) (gs : List LineForm) (f : LineForm) (a : Above) (old new : List A) → new ≡ old ++ g a f → old ≡ gathered g [] gs → a ≡ above_of gs → new ≡ gathered g [] (gs ++ f ∷ [])
gives_more g gs f a old new e o s =
    e ∙ ap₂ (λ xs b. xs ++ g b f) o s ∙ sym (gathered_more g [] gs f)

-- the line is taken
pub line_taken : AboveMore → (all : ℕ) (ls : List Counted) (old new : Reading) (l : Line) → HasRead all ls old → None ≡ kind_on all (above_now old) l.bytes → Takes old new l.bytes → HasRead all (ls ++ counted l ∷ []) new
line_taken law all ls old new l h k t =
    let f = t.0 in
    let w = h.begun.0 in
    let fs = h.begun.1 in
    let more : body (ls ++ counted l ∷ []) ≡ body ls ++ f ∷ [] = body_more ls (counted l) (OfWeights w) f fs h.begun.2 t.1 in
    let none : first_fault (conditions all (above_of (body ls)) f) ≡ None =
    form_accepted all (above_of (body ls)) l.bytes f t.1 (ap (λ a. kind_on all a l.bytes) (sym h.above) ∙ sym k) in
    record {
      begun = (w, fs ++ f ∷ [], more ∙ ap (λ g. g ++ f ∷ []) h.begun.2);
      accepted = found_none all ls (counted l) h.accepted (kind_now all ls old l h ∙ sym k);
      above = t.2.above ∙ ap (λ a. with_line a f) h.above ∙ sym (above_more law all (body ls) w fs f h.begun.2 none) ∙ ap above_of (sym more);
      rules = gives_more rules_on (body ls) f (above_now old) old.rules.items new.rules.items t.2.rules h.rules h.above ∙ ap (gathered rules_on []) (sym more);
      queries = gives_more queries_on (body ls) f (above_now old) old.queries.items new.queries.items t.2.queries h.queries h.above ∙ ap (gathered queries_on []) (sym more);
    }
