-- Lines behind the weights line.
use Rattle.std.proofs.Common.{◌≡◌, ◌∙◌, ℕ, ◌≤◌, true, not, List, [], ◌∷◌, ◌++◌, length, Option, Some, None, refl, sym, ap, subst, append-nil, length-append}
use Rattle.std.specs.Global.{Vec}
use Rattle.std.specs.Prelude.{option_map, IfNone, IfOk, Result, Ok, Err}
use Rattle.wpds_base.specs.Faults.{first_fault}
use Rattle.wpds_base.specs.Lists.{IsOnce}
use Rattle.wpds_port.specs.declared.Kind.{Kind}
use Rattle.wpds_port.specs.declared.Kind.TheVariants.{NotText}
use Rattle.wpds_port.specs.declared.Word.{Word}
use Rattle.document_forms.specs.Lines.{Line, is_text}
use Rattle.document_forms.specs.Above.{Above, has_class, most_names, class_names, with_line}
use Rattle.document_forms.specs.Forms.{Class, Controls, Symbols, Facts, Variables, RuleForm, LineForm, OfWeights, OfNames, OfRule, OfQuery, names_of, rule_of, line_form}
use Rattle.document_forms.specs.Kinds.{conditions}
use Rattle.document_forms.specs.FirstRefusal.{by_form}
use Rattle.document_forms.specs.declared.document.RuleLine.{RuleLine}
use Rattle.document_forms.proofs.CallerLemmas.{names_few, facts_limit, variables_limit}
use Rattle.document_reader.specs.declared.reading.Reading.{Reading}
use Rattle.rule_reader.specs.declared.rules.RuleRead.{RuleRead}
use Rattle.document_reader.specs.private.Readings.{kind_on, all_behind, above_now, TakesForm}
use Rattle.rule_reader.specs.RuleReads.{HasFewItems, IsReadRule}
use Rattle.document_reader.specs.private.LineReads.{IsAnswered, AreAnswered}
use Rattle.document_reader.specs.NameLines.{kind_of_names, Declares}

-- ---- names

-- the reading with other names of a class
abbrev pub with_names : Class → Reading → List (List ℕ) → Reading
with_names Controls r xs = record r { scope = record (r.scope) { controls = xs } }
with_names Symbols r xs = record r { scope = record (r.scope) { symbols = xs } }
with_names _ r xs = record r { scope = record (r.scope) { items = xs } }

abbrev known : Class → Reading → List (List ℕ)
known c r = class_names (above_now r) c

names_kind :
    (all : ℕ) (a : Above) (c : Class) (o : Option (List (List ℕ))) → has_class a.weights c ≡ true
    → kind_of_names (class_names a c) (most_names a.weights c) o ≡ first_fault (by_form (conditions all a) (option_map (OfNames c) o))
names_kind all a c None h = refl
names_kind all a c (Some xs) h = rw h refl

names_taken : (c : Class) (r : Reading) (xs : List (List ℕ)) → TakesForm r (with_names c r (known c r ++ xs)) (OfNames c xs)
names_taken Controls r xs = record { above = refl; rules = sym (append-nil r.rules.items); queries = sym (append-nil r.queries.items) }
names_taken Symbols r xs = record { above = refl; rules = sym (append-nil r.rules.items); queries = sym (append-nil r.queries.items) }
names_taken Facts r xs = record { above = refl; rules = sym (append-nil r.rules.items); queries = sym (append-nil r.queries.items) }
names_taken Variables r xs = record { above = refl; rules = sym (append-nil r.rules.items); queries = sym (append-nil r.queries.items) }

-- The names of a class are declared, or refused.
pub names_answered :
    {E : Type 0} (c : Class) (r : Reading) (new : List (List ℕ)) (ws : List Word) (result : Result (Option Kind) E) → has_class r.scope.weights c ≡ true
    → IfOk result (λ k. k ≡ kind_of_names (known c r) (most_names r.scope.weights c) (names_of ws)) → IfOk result (λ k. IfNone k (Declares (known c r) new ws))
    → IfOk result (AreAnswered r (with_names c r new) c ws)
names_answered c r new ws (Err x) h e d = tt
names_answered c r new ws (Ok k) h e d =
    λ all. record { kind = e ∙ names_kind all (above_now r) c (names_of ws) h; taken = go k d }
  where
    go : (o : Option Kind) → IfNone o (Declares (known c r) new ws) → IfNone o ((f : LineForm) × (option_map (OfNames c) (names_of ws) ≡ Some f) × TakesForm r (with_names c r new) f)
    go (Some j) d = d
    go None d = (OfNames c d.0, ap (option_map (OfNames c)) d.1, subst (λ ys. TakesForm r (with_names c r ys) (OfNames c d.0)) (sym d.2) (names_taken c r d.0))

-- ---- rules

-- the reading with other rules
abbrev pub with_rules : Reading → Vec RuleLine → Reading
with_rules r rules = record r { rules = rules }

-- A rule that is read is taken where it has no kind.
pub rule_taken :
    (all : ℕ) (r : Reading) (rules : Vec RuleLine) (ws : List Word) (f : RuleForm) (read : RuleRead) → HasFewItems (above_now r)
    → rule_of ws ≡ Some f → IsReadRule (above_now r) f read → read.kind ≡ None → rules.items ≡ r.rules.items ++ read.rule ∷ []
    → IsAnswered all r (with_rules r rules) (option_map OfRule (rule_of ws)) None
rule_taken all r rules ws f read few e m none more =
    record {
      kind = sym none ∙ m.kind ∙ ap (λ o. first_fault (by_form (conditions all (above_now r)) (option_map OfRule o))) (sym e);
      taken = (
        OfRule f,
        ap (option_map OfRule) e,
        record {
          above = ap (λ n. record a { rules = n }) (ap length more ∙ length-append r.rules.items (read.rule ∷ []));
          rules = more ∙ ap (λ x. r.rules.items ++ x ∷ []) (m.value few none);
          queries = sym (append-nil r.queries.items);
        },
      );
    }
  where
    a : Above
    a = above_now r

-- ---- no more items than the weights have

-- also with an accepted line more
few_with : (all : ℕ) (a : Above) (f : LineForm) → IsOnce a.items → HasFewItems a → first_fault (conditions all a f) ≡ None → HasFewItems (with_line a f)
few_with all a (OfWeights w) o h e = h
few_with all a (OfNames Controls xs) o h e = h
few_with all a (OfNames Symbols xs) o h e = h
few_with all a (OfNames Facts xs) o h e =
    let m = names_few a Facts xs o e in
    subst (λ n. length (a.items ++ xs) ≤ n) (facts_limit a.weights m.0) m.1
few_with all a (OfNames Variables xs) o h e =
    let m = names_few a Variables xs o e in
    subst (λ n. length (a.items ++ xs) ≤ n) (variables_limit a.weights m.0) m.1
few_with all a (OfRule r) o h e = h
few_with all a (OfQuery p q) o h e = h

-- also when a line is answered and has no kind
pub few_answered :
    {E : Type 0} (all : ℕ) (old new : Reading) (form : Option LineForm) (result : Result (Option Kind) E) → IsOnce old.scope.items → HasFewItems (above_now old)
    → IfOk result (IsAnswered all old new form) → IfOk result (λ k. IfNone k (HasFewItems (above_now new)))
few_answered all old new form (Err x) o h m = tt
few_answered all old new form (Ok k) o h m = go k m.kind m.taken
  where
    go :
        (j : Option Kind) → j ≡ first_fault (by_form (conditions all (above_now old)) form)
        → IfNone j ((f : LineForm) × (form ≡ Some f) × TakesForm old new f) → IfNone j (HasFewItems (above_now new))
    go (Some i) e t = tt
    go None e t =
        subst HasFewItems (sym t.2.above)
        (few_with all (above_now old) t.0 o h (ap (λ g. first_fault (by_form (conditions all (above_now old)) g)) (sym t.1) ∙ sym e))

-- ---- the kind of a line

-- of a line of text with this form
pub kind_answered :
    {E : Type 0} (line : List ℕ) (form : Option LineForm) (xs : List (List ℕ)) (ls : List Line) (old new : Reading) (result : Result (Option Kind) E)
    → line_form line ≡ form → is_text line ≡ true → IfOk result (IsAnswered (all_behind xs form ls) old new form)
    → IfOk result (λ k. k ≡ kind_on (all_behind xs (line_form line) ls) (above_now old) line)
kind_answered line form xs ls old new (Err x) e t m = tt
kind_answered line form xs ls old new (Ok k) e t m =
    let a = above_now old in
    m.kind
    ∙ sym (ap (λ f. first_fault (by_form (conditions (all_behind xs f ls) a) f)) e)
    ∙ ap (λ s. first_fault ((not s, NotText) ∷ by_form (conditions (all_behind xs (line_form line) ls) a) (line_form line))) (sym t)
