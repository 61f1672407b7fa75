-- A document that is read keeps to what every document keeps to.
use Rattle.std.proofs.Common.{◌≡◌, ℕ, ◌≤◌, Bool, true, false, not, ◌&&◌, List, [], ◌∷◌, ◌++◌, map, length, Option, Some, None, refl, sym, ap, ◌∙◌, subst, arith, le_refl, le_trans, append_assoc, append-nil, length-append}
use Rattle.std.specs.Prelude.{All, nat_le, if◌then◌else◌, filter}
use Rattle.std.specs.List.{list_any, cons_option}
use Rattle.std.proofs.lemmas.Bool.{and_parts, leb-true}
use Rattle.std.proofs.lemmas.List.Elements.{All-nil, All-cons, All-append, filter_map-append}
use Rattle.wpds_base.specs.Faults.{first_fault}
use Rattle.wpds_base.specs.Limits.{most_pushed, most_rules, most_queries}
use Rattle.document_forms.specs.declared.document.RuleLine.{RuleLine}
use Rattle.document_forms.specs.declared.document.QueryLine.{QueryLine}
use Rattle.document_forms.specs.Lines.{Line, numbered, counts, lines}
use Rattle.document_forms.specs.Forms.{WeightsForm, Controls, Symbols, Facts, Variables, LineForm, OfWeights, OfNames, OfRule, OfQuery}
use Rattle.document_forms.specs.FormWords.{is_form, has_none, is_back, right_words}
use Rattle.document_forms.specs.Words.{is_return}
use Rattle.wpds_port.specs.declared.Kind.TheVariants.{NotText, Form, Count, NothingAsked}
use Rattle.document_forms.specs.Above.{weights_line, item_class, declared, Above, above_of, with_line, is_query}
use Rattle.document_forms.specs.Kinds.{Conditions, has_unlawful_cap, weights_conditions, conditions}
use Rattle.document_forms.specs.FirstRefusal.{Counted, counted, counted_lines, forms, all_symbols, by_form, document_format, missing, AreAccepted}
use Rattle.document_forms.specs.Documents.{Document, rules_on, queries_on, rule_value, query_value, gathered, body, document_of, reads_as}
use Rattle.document_forms.specs.Lawful.{IsRuleLine, IsQueryLine, IsDocument}
use Rattle.document_forms.proofs.NameLemmas.{declared_once}
use Rattle.document_forms.proofs.AboveLemmas.{line_more}
use Rattle.document_forms.proofs.RuleLemmas.{first_false, rule_lawful}
use Rattle.document_forms.proofs.PatternLemmas.{query_lawful}
use Rattle.document_forms.proofs.LimitLemmas.{cap_lawful, Within, within_more, within_none, count_rules, count_queries}
use Rattle.document_forms.proofs.GrowthLemmas.{rule_with_more, query_with_more}
use Rattle.document_forms.proofs.WrittenWordLemmas.{OneCutting}
use Rattle.document_forms.proofs.SaidFormLemmas.{IsSaid, AreSaid, said_form, names_declared, maps_said, sets_said, some_query}
use Rattle.document_forms.proofs.RefusedLemmas.{AcceptedFrom, first_accepted, further_accepted}

-- ---- more is said with each line

pub record Grows (a b : Above) : Type 0 where
  pub controls : length a.controls ≤ length b.controls
  pub symbols : length a.symbols ≤ length b.symbols
  pub items : length a.items ≤ length b.items

grows_same : (a : Above) → Grows a a
grows_same a = record { controls = le_refl (length a.controls); symbols = le_refl (length a.symbols); items = le_refl (length a.items) }

grows_on : (a b c : Above) → Grows a b → Grows b c → Grows a c
grows_on a b c g h = record { controls = le_trans g.controls h.controls; symbols = le_trans g.symbols h.symbols; items = le_trans g.items h.items }

longer : (xs ys : List (List ℕ)) → length xs ≤ length (xs ++ ys)
longer xs ys = let e = length-append xs ys in omega arith

grows_with : (a : Above) (f : LineForm) → Grows a (with_line a f)
grows_with a (OfWeights w) = grows_same a
grows_with a (OfNames Controls xs) = record { controls = longer a.controls xs; symbols = le_refl (length a.symbols); items = le_refl (length a.items) }
grows_with a (OfNames Symbols xs) = record { controls = le_refl (length a.controls); symbols = longer a.symbols xs; items = le_refl (length a.items) }
grows_with a (OfNames Facts xs) = record { controls = le_refl (length a.controls); symbols = le_refl (length a.symbols); items = longer a.items xs }
grows_with a (OfNames Variables xs) = record { controls = le_refl (length a.controls); symbols = le_refl (length a.symbols); items = longer a.items xs }
grows_with a (OfRule r) = record { controls = le_refl (length a.controls); symbols = le_refl (length a.symbols); items = le_refl (length a.items) }
grows_with a (OfQuery p q) = record { controls = le_refl (length a.controls); symbols = le_refl (length a.symbols); items = le_refl (length a.items) }

-- ---- accepted forms

-- each has none of its kinds below those above it
abbrev AcceptedForms : ℕ → (pre fs : List LineForm) → Type 0
AcceptedForms all pre [] = Unit {0}
AcceptedForms all pre (f ∷ fs) = IsSaid f × (first_fault (conditions all (above_of pre) f) ≡ None) × AcceptedForms all (pre ++ f ∷ []) fs

accepted_said : (all : ℕ) (pre fs : List LineForm) → AcceptedForms all pre fs → AreSaid fs
accepted_said all pre [] h = tt
accepted_said all pre (f ∷ fs) h = (h.0, accepted_said all (pre ++ f ∷ []) fs h.2)

module _ (all : ℕ) (w : WeightsForm) where
  joined : (ls : List LineForm) (f : LineForm) (fs : List LineForm) → (OfWeights w ∷ (ls ++ f ∷ [])) ++ fs ≡ (OfWeights w ∷ ls) ++ f ∷ fs
  joined ls f fs = ap (λ l. OfWeights w ∷ l) (append_assoc ls (f ∷ []) fs)

  grows_to : (ls fs : List LineForm) → AcceptedForms all (OfWeights w ∷ ls) fs → Grows (above_of (OfWeights w ∷ ls)) (above_of ((OfWeights w ∷ ls) ++ fs))
  grows_to ls [] h = subst (λ l. Grows (above_of (OfWeights w ∷ ls)) (above_of (OfWeights w ∷ l))) (sym (append-nil ls)) (grows_same (above_of (OfWeights w ∷ ls)))
  grows_to ls (f ∷ fs) h =
      let a = above_of (OfWeights w ∷ ls) in
      let b = above_of (OfWeights w ∷ (ls ++ f ∷ [])) in
      let one : Grows a b = subst (Grows a) (sym (line_more all w ls f h.1)) (grows_with a f) in
      let more = grows_to (ls ++ f ∷ []) fs h.2 in
      subst (λ l. Grows a (above_of l)) (joined ls f fs) (grows_on a b (above_of ((OfWeights w ∷ (ls ++ f ∷ [])) ++ fs)) one more)

  abbrev RuleAt : Above → RuleLine → Type 0
  RuleAt a r = IsRuleLine (weights_line w) (length a.controls) (length a.symbols) (length a.items) r

  abbrev QueryAt : Above → QueryLine → Type 0
  QueryAt a q = IsQueryLine all (length a.controls) (length a.symbols) q

  rules_here : (ls : List LineForm) (b : Above) (f : LineForm) → Grows (above_of (OfWeights w ∷ ls)) b → is_form f ≡ true → first_fault (conditions all (above_of (OfWeights w ∷ ls)) f) ≡ None → All (RuleAt b) (rules_on (above_of (OfWeights w ∷ ls)) f)
  rules_here ls b (OfWeights v) g o h = All-nil (RuleAt b)
  rules_here ls b (OfNames c xs) g o h = All-nil (RuleAt b)
  rules_here ls b (OfRule r) g o h =
      let a = above_of (OfWeights w ∷ ls) in
      let short = leb-true (length r.right) most_pushed (and_parts (nat_le (length r.right) most_pushed) (has_none is_return (right_words r) && is_back r.back) o).0 in
      All-cons (RuleAt b) (rule_value a r) []
      (rule_with_more (weights_line w) (length a.controls) (length a.symbols) (length a.items) (length b.controls) (length b.symbols) (length b.items) g.controls g.symbols g.items (rule_value a r) (rule_lawful a r short h))
      (All-nil (RuleAt b))
  rules_here ls b (OfQuery p q) g o h = All-nil (RuleAt b)

  queries_here : (ls : List LineForm) (b : Above) (f : LineForm) → Grows (above_of (OfWeights w ∷ ls)) b → first_fault (conditions all (above_of (OfWeights w ∷ ls)) f) ≡ None → All (QueryAt b) (queries_on (above_of (OfWeights w ∷ ls)) f)
  queries_here ls b (OfWeights v) g h = All-nil (QueryAt b)
  queries_here ls b (OfNames c xs) g h = All-nil (QueryAt b)
  queries_here ls b (OfRule r) g h = All-nil (QueryAt b)
  queries_here ls b (OfQuery p q) g h =
      let a = above_of (OfWeights w ∷ ls) in
      All-cons (QueryAt b) (query_value a p q) []
      (query_with_more all (length a.controls) (length a.symbols) (length b.controls) (length b.symbols) g.controls g.symbols (query_value a p q) (query_lawful all a p q h))
      (All-nil (QueryAt b))

  rules_all : (ls fs : List LineForm) → AcceptedForms all (OfWeights w ∷ ls) fs → All (RuleAt (above_of ((OfWeights w ∷ ls) ++ fs))) (gathered rules_on (OfWeights w ∷ ls) fs)
  rules_all ls [] h = All-nil (RuleAt (above_of ((OfWeights w ∷ ls) ++ [])))
  rules_all ls (f ∷ fs) h =
      let b = above_of ((OfWeights w ∷ ls) ++ f ∷ fs) in
      All-append (RuleAt b) (rules_on (above_of (OfWeights w ∷ ls)) f) (gathered rules_on (OfWeights w ∷ (ls ++ f ∷ [])) fs)
      (rules_here ls b f (grows_to ls (f ∷ fs) h) h.0.form h.1)
      (subst (λ l. All (RuleAt (above_of l)) (gathered rules_on (OfWeights w ∷ (ls ++ f ∷ [])) fs)) (joined ls f fs) (rules_all (ls ++ f ∷ []) fs h.2))

  queries_all : (ls fs : List LineForm) → AcceptedForms all (OfWeights w ∷ ls) fs → All (QueryAt (above_of ((OfWeights w ∷ ls) ++ fs))) (gathered queries_on (OfWeights w ∷ ls) fs)
  queries_all ls [] h = All-nil (QueryAt (above_of ((OfWeights w ∷ ls) ++ [])))
  queries_all ls (f ∷ fs) h =
      let b = above_of ((OfWeights w ∷ ls) ++ f ∷ fs) in
      All-append (QueryAt b) (queries_on (above_of (OfWeights w ∷ ls)) f) (gathered queries_on (OfWeights w ∷ (ls ++ f ∷ [])) fs)
      (queries_here ls b f (grows_to ls (f ∷ fs) h) h.1)
      (subst (λ l. All (QueryAt (above_of l)) (gathered queries_on (OfWeights w ∷ (ls ++ f ∷ [])) fs)) (joined ls f fs) (queries_all (ls ++ f ∷ []) fs h.2))

  within_all : (ls fs : List LineForm) → AcceptedForms all (OfWeights w ∷ ls) fs → Within (weights_line w) (above_of (OfWeights w ∷ ls)) → Within (weights_line w) (above_of ((OfWeights w ∷ ls) ++ fs))
  within_all ls [] h m = subst (λ l. Within (weights_line w) (above_of (OfWeights w ∷ l))) (sym (append-nil ls)) m
  within_all ls (f ∷ fs) h m =
      let more = subst (Within (weights_line w)) (sym (line_more all w ls f h.1)) (within_more all w ls f h.1 m) in
      subst (λ l. Within (weights_line w) (above_of l)) (joined ls f fs) (within_all (ls ++ f ∷ []) fs h.2 more)

  lawful_body : (fs : List LineForm) → has_unlawful_cap w ≡ false → all ≡ length (declared Symbols fs) → list_any is_query fs ≡ true → AcceptedForms all (OfWeights w ∷ []) fs → IsDocument (document_of (OfWeights w ∷ fs))
  lawful_body fs c s q h =
      let within = within_all [] fs h (within_none w) in
      let said = accepted_said all (OfWeights w ∷ []) fs h in
      record {
        weights = cap_lawful w c;
        controls = record { few = within.controls; once = declared_once Controls (OfWeights w ∷ fs); lawful = names_declared Controls fs said };
        symbols = record { few = within.symbols; once = declared_once Symbols (OfWeights w ∷ fs); lawful = names_declared Symbols fs said };
        items = record { few = within.items; once = declared_once (item_class (weights_line w)) (OfWeights w ∷ fs); lawful = names_declared (item_class (weights_line w)) fs said };
        has_items = within.has_items;
        rules = rules_all [] fs h;
        maps = maps_said (OfWeights w ∷ []) fs said;
        few_rules = subst (λ n. n ≤ most_rules) (sym (count_rules [] (OfWeights w ∷ fs))) within.rules;
        queries = subst (λ n. All (IsQueryLine n (length (declared Controls fs)) (length (declared Symbols fs))) (gathered queries_on (OfWeights w ∷ []) fs)) s (queries_all [] fs h);
        sets = sets_said (OfWeights w ∷ []) fs said;
        asked = some_query (OfWeights w ∷ []) fs q;
        few_queries = subst (λ n. n ≤ most_queries) (sym (count_queries [] (OfWeights w ∷ fs))) within.queries;
      }

-- ---- accepted lines have accepted forms

-- a form of a line is one, with names
abbrev HasForm : Counted → Type 0
HasForm l = (f : LineForm) → l.form ≡ Some f → IsSaid f

abbrev HaveForms : List Counted → Type 0
HaveForms [] = Unit {0}
HaveForms (l ∷ ls) = HasForm l × HaveForms ls

counted_forms : OneCutting → (ls : List Line) → HaveForms (map counted ls)
counted_forms cut [] = tt
counted_forms cut (l ∷ ls) = ((λ f e. said_form cut l.bytes f e), counted_forms cut ls)

pub forms_first : (l : Counted) (f : LineForm) (ls : List Counted) → l.form ≡ Some f → forms (l ∷ ls) ≡ f ∷ forms ls
forms_first l f ls e = ap (λ o. cons_option o (forms ls)) e

pub forms_more : (ls : List Counted) (l : Counted) (f : LineForm) → l.form ≡ Some f → forms (ls ++ l ∷ []) ≡ forms ls ++ f ∷ []
forms_more ls l f e = filter_map-append (λ k. k.form) ls (l ∷ []) ∙ ap (λ fs. forms ls ++ fs) (forms_first l f [] e)

-- a line with no kind has a form that has none
form_accepted : (test : LineForm → Conditions) (t : Bool) (o : Option LineForm) → first_fault ((t, NotText) ∷ by_form test o) ≡ None → (f : LineForm) × (o ≡ Some f) × (first_fault (test f) ≡ None)
form_accepted test t None h = let k = first_false t NotText ((true, Form) ∷ []) h in let no : first_fault ((true, Form) ∷ []) ≡ None = k.1 in cc
form_accepted test t (Some f) h = (f, refl, (first_false t NotText (test f) h).1)

accepted_forms : (all : ℕ) (h w : Counted) (us rest : List Counted) → HaveForms rest → AcceptedFrom (document_format all) (h ∷ w ∷ us) rest → AcceptedForms all (forms (w ∷ us)) (forms rest)
accepted_forms all h w us [] m a = tt
accepted_forms all h w us (l ∷ rest) m a =
    let none = first_accepted (document_format all) (h ∷ w ∷ us) rest l a in
    let k = form_accepted (conditions all (above_of (forms (w ∷ us)))) (not l.text) l.form none in
    let more = accepted_forms all h w (us ++ l ∷ []) rest m.1 (further_accepted (document_format all) (h ∷ w ∷ us) rest l a) in
    subst (λ fs. AcceptedForms all (forms (w ∷ us)) fs) (sym (forms_first l k.0 rest k.1))
    (m.0 k.0 k.1, k.2, subst (λ pre. AcceptedForms all pre (forms rest)) (forms_more (w ∷ us) l k.0 k.1) more)

-- the second line is a weights line
second_is_weights : (f : LineForm) → first_fault (weights_conditions f) ≡ None → (w : WeightsForm) × (f ≡ OfWeights w) × (has_unlawful_cap w ≡ false)
second_is_weights (OfWeights w) h = (w, refl, (first_false (has_unlawful_cap w) Count [] h).0)
second_is_weights (OfNames c xs) h = cc
second_is_weights (OfRule r) h = cc
second_is_weights (OfQuery p q) h = cc

lawful_lines : (all : ℕ) (ls : List Counted) → HaveForms ls → all ≡ all_symbols ls → AreAccepted all ls → missing ls ≡ None → IsDocument (document_of (body ls))
lawful_lines all [] m s a e = cc
lawful_lines all (h ∷ []) m s a e = cc
lawful_lines all (h ∷ w ∷ rest) m s a e =
    let behind = further_accepted (document_format all) [] (w ∷ rest) h a in
    let none = first_accepted (document_format all) (h ∷ []) rest w behind in
    let k = form_accepted weights_conditions (not w.text) w.form none in
    let x = second_is_weights k.0 k.2 in
    let form : w.form ≡ Some (OfWeights x.0) = k.1 ∙ ap Some x.1 in
    let more = accepted_forms all h w [] rest m.1.1 (further_accepted (document_format all) (h ∷ []) rest w behind) in
    let fs = subst (λ pre. AcceptedForms all pre (forms rest)) (forms_first w (OfWeights x.0) [] form) more in
    let asks : list_any is_query (forms rest) ≡ true = subst (λ l. list_any is_query l ≡ true) (forms_first w (OfWeights x.0) rest form) (nothing_missing (list_any is_query (forms (w ∷ rest))) e) in
    subst (λ l. IsDocument (document_of l)) (sym (forms_first w (OfWeights x.0) rest form)) (lawful_body all x.0 (forms rest) x.2 s asks fs)
  where
    nothing_missing : (t : Bool) → (if not t then Some NothingAsked else None) ≡ None → t ≡ true
    nothing_missing true k = refl
    nothing_missing false k = cc

pub lawful_document : OneCutting → (bytes : List ℕ) (d : Document) → reads_as bytes d → IsDocument d
lawful_document cut bytes d m =
    subst IsDocument (sym m.document)
    (lawful_lines (all_symbols (counted_lines bytes)) (counted_lines bytes) (counted_forms cut (filter (λ l. counts l.bytes) (numbered 1 (lines bytes)))) refl m.accepted m.whole)
