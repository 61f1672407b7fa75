-- The form of a line by its words.
use Rattle.std.proofs.Common.{◌≡◌, ◌∙◌, ℕ, Bool, true, false, List, [], ◌∷◌, Option, Some, None, refl, sym, ap, option_map}
use Rattle.std.specs.Prelude.{option_and_then, unwrap_or, MatchOption, IfSome, if◌then◌else◌, codes}
use Rattle.std.specs.List.{list_all}
use Rattle.wpds_base.specs.Faults.{first_fault}
use Rattle.wpds_port.specs.declared.Kind.TheVariants.{Form}
use Rattle.std.proofs.lemmas.Slice.Eq.{bytes_eq-Decides}
use Rattle.wpds_port.specs.declared.Word.{Word}
use Rattle.wpds_port.specs.declared.Word.TheVariants.{Name, Number, Mark as Sign}
use Rattle.wpds_port.specs.Tokens.{is_lawful_word}
use Rattle.wpds_port.specs.declared.Lexeme.{Lexeme}
use Rattle.wpds_port.specs.Words.{text_words, if_lawful, lawful_words, word_of}
use Rattle.truth_tables.specs.Texts.{is_name}
use Rattle.document_forms.specs.Words.{guarded, is_implies, before, behind, ◌>>=◌}
use Rattle.document_forms.specs.Lines.{is_text}
use Rattle.document_forms.proofs.CallerLemmas.{OneCutting, lawful_is_text}
use Rattle.document_forms.specs.FirstRefusal.{by_form}
use Rattle.document_forms.specs.Patterns.{PatternForm, pattern_of}
use Rattle.document_forms.specs.Forms.{WeightsForm, RuleForm, LineForm, OfWeights, OfQuery, form_of, form_behind, line_form, names_of, rule_of, query_of, weights_of, OfNames, OfRule, Controls, Symbols, Facts, Variables, Class}
use Rattle.document_forms.specs.Kinds.{weights_conditions}
use Rattle.document_forms.specs.Above.{names_on}
use Rattle.document_reader.specs.private.Readings.{declared_on}
use Rattle.document_reader.specs.NameLines.{names_in}
use Rattle.document_reader.specs.private.LineForms.{form_in}

pub form_lawful : (line : List ℕ) → line_form line ≡ option_and_then form_in (lawful_words line)
form_lawful line = go (text_words line)
  where
    at : (w : Word) (ws : List Word) (t : Bool) → guarded t (form_behind w ws) ≡ option_and_then form_in (if t then Some (w ∷ ws) else None)
    at w ws true = refl
    at w ws false = refl

    go : (o : Option (List Word)) → option_and_then form_of o ≡ option_and_then form_in (option_and_then if_lawful o)
    go None = refl
    go (Some []) = refl
    go (Some (w ∷ ws)) = at w ws (list_all is_lawful_word (w ∷ ws))

names_refused : (c : Class) (o : Option (List (List ℕ))) → first_fault (by_form weights_conditions (option_map (OfNames c) o)) ≡ Some Form
names_refused c None = refl
names_refused c (Some xs) = refl

rule_refused : (o : Option RuleForm) → first_fault (by_form weights_conditions (option_map OfRule o)) ≡ Some Form
rule_refused None = refl
rule_refused (Some r) = refl

-- words that are a query are two patterns
query_refused : (ws : List Word) → first_fault (by_form weights_conditions (query_of ws)) ≡ Some Form
query_refused ws = go (pattern_of (before is_implies ws)) (behind is_implies ws)
  where
    last : (p : PatternForm) (o : Option PatternForm) → first_fault (by_form weights_conditions (o >>= λ q. Some (OfQuery p q))) ≡ Some Form
    last p None = refl
    last p (Some q) = refl

    go : (o : Option PatternForm) (b : Option (List Word)) → first_fault (by_form weights_conditions (o >>= λ p. b >>= λ text. pattern_of text >>= λ q. Some (OfQuery p q))) ≡ Some Form
    go None b = refl
    go (Some p) None = refl
    go (Some p) (Some text) = last p (pattern_of text)

-- a line that begins with another word is no weights line
pub other_refused : (w : Word) (ws : List Word) → is_name (codes "weights") w ≡ false → first_fault (by_form weights_conditions (form_behind w ws)) ≡ Some Form
other_refused w ws h = rw h (go (is_name (codes "controls") w) (is_name (codes "symbols") w) (is_name (codes "facts") w) (is_name (codes "variables") w) (is_name (codes "rule") w) (is_name (codes "query") w))
  where
    go : (c s f v r q : Bool) → first_fault (by_form weights_conditions (
        if c then option_map (OfNames Controls) (names_of ws)
        else (if s then option_map (OfNames Symbols) (names_of ws)
        else (if f then option_map (OfNames Facts) (names_of ws)
        else (if v then option_map (OfNames Variables) (names_of ws)
        else (if r then option_map OfRule (rule_of ws)
        else (if q then query_of ws else None))))))) ≡ Some Form
    go true s f v r q = names_refused Controls (names_of ws)
    go false true f v r q = names_refused Symbols (names_of ws)
    go false false true v r q = names_refused Facts (names_of ws)
    go false false false true r q = names_refused Variables (names_of ws)
    go false false false false true q = rule_refused (rule_of ws)
    go false false false false false true = query_refused ws
    go false false false false false false = refl

pub weights_behind : (w : Word) (ws : List Word) → is_name (codes "weights") w ≡ true → form_behind w ws ≡ option_map OfWeights (weights_of ws)
weights_behind w ws h = rw h refl

-- the first word of a line, and those behind it
pub front_of : (line : List ℕ) (ws : List Word) (r : Option (Lexeme × List Word)) → lawful_words line ≡ Some ws
    → MatchOption r (ws ≡ []) (λ p. ws ≡ word_of p.0 ∷ p.1)
    → MatchOption r (line_form line ≡ None) (λ p. line_form line ≡ form_behind (word_of p.0) p.1)
front_of line ws None e h = form_lawful line ∙ ap (option_and_then form_in) e ∙ ap form_in h
front_of line ws (Some p) e h = form_lawful line ∙ ap (option_and_then form_in) e ∙ ap form_in h

-- ---- a line that is cut wholly into words is text

pub text_of : OneCutting → (line : List ℕ) (ws : List Word) (r : Option (Lexeme × List Word)) → lawful_words line ≡ Some ws → IfSome r (λ _. is_text line ≡ true)
text_of cut line ws None e = tt
text_of cut line ws (Some p) e = lawful_is_text cut line ws e

-- ---- lines that begin with the word of their form

name_is : (x : List ℕ) (w : Word) → is_name x w ≡ true → w ≡ Name x
name_is x (Name y) h = ap Name (sym ((bytes_eq-Decides x y).0 h))
name_is x (Number n) h = cc
name_is x (Sign m) h = cc

pub controls_behind : (w : Word) (ws : List Word) → is_name (codes "controls") w ≡ true → form_behind w ws ≡ option_map (OfNames Controls) (names_of ws)
controls_behind w ws h = ap (λ v. form_behind v ws) (name_is (codes "controls") w h)

pub symbols_behind : (w : Word) (ws : List Word) → is_name (codes "symbols") w ≡ true → form_behind w ws ≡ option_map (OfNames Symbols) (names_of ws)
symbols_behind w ws h = ap (λ v. form_behind v ws) (name_is (codes "symbols") w h)

pub facts_behind : (w : Word) (ws : List Word) → is_name (codes "facts") w ≡ true → form_behind w ws ≡ option_map (OfNames Facts) (names_of ws)
facts_behind w ws h = ap (λ v. form_behind v ws) (name_is (codes "facts") w h)

pub variables_behind : (w : Word) (ws : List Word) → is_name (codes "variables") w ≡ true → form_behind w ws ≡ option_map (OfNames Variables) (names_of ws)
variables_behind w ws h = ap (λ v. form_behind v ws) (name_is (codes "variables") w h)

pub rule_behind : (w : Word) (ws : List Word) → is_name (codes "rule") w ≡ true → form_behind w ws ≡ option_map OfRule (rule_of ws)
rule_behind w ws h = ap (λ v. form_behind v ws) (name_is (codes "rule") w h)

pub query_behind : (w : Word) (ws : List Word) → is_name (codes "query") w ≡ true → form_behind w ws ≡ query_of ws
query_behind w ws h = ap (λ v. form_behind v ws) (name_is (codes "query") w h)

-- ---- lines of symbols

abbrev pub symbols_in : Option LineForm → List (List ℕ)
symbols_in f = unwrap_or (option_map (names_on Symbols) f) []

-- a line that begins with another word declares no symbols
other_symbols : (w : Word) (ws : List Word) → is_name (codes "symbols") w ≡ false → symbols_in (form_behind w ws) ≡ []
other_symbols w ws h = go (is_name (codes "weights") w) (is_name (codes "controls") w) (is_name (codes "symbols") w) h (is_name (codes "facts") w) (is_name (codes "variables") w) (is_name (codes "rule") w) (is_name (codes "query") w)
  where
    weights : (o : Option WeightsForm) → symbols_in (option_map OfWeights o) ≡ []
    weights None = refl
    weights (Some w) = refl

    names : (c : Class) → ((xs : List (List ℕ)) → names_on Symbols (OfNames c xs) ≡ []) → (o : Option (List (List ℕ))) → symbols_in (option_map (OfNames c) o) ≡ []
    names c none None = refl
    names c none (Some xs) = none xs

    rules : (o : Option RuleForm) → symbols_in (option_map OfRule o) ≡ []
    rules None = refl
    rules (Some r) = refl

    queries : symbols_in (query_of ws) ≡ []
    queries = step (pattern_of (before is_implies ws)) (behind is_implies ws)
      where
        last : (p : PatternForm) (o : Option PatternForm) → symbols_in (o >>= λ q. Some (OfQuery p q)) ≡ []
        last p None = refl
        last p (Some q) = refl

        step : (o : Option PatternForm) (b : Option (List Word)) → symbols_in (o >>= λ p. b >>= λ text. pattern_of text >>= λ q. Some (OfQuery p q)) ≡ []
        step None b = refl
        step (Some p) None = refl
        step (Some p) (Some text) = last p (pattern_of text)

    go : (e c s : Bool) → s ≡ false → (f v r q : Bool) → symbols_in (
        if e then option_map OfWeights (weights_of ws)
        else (if c then option_map (OfNames Controls) (names_of ws)
        else (if s then option_map (OfNames Symbols) (names_of ws)
        else (if f then option_map (OfNames Facts) (names_of ws)
        else (if v then option_map (OfNames Variables) (names_of ws)
        else (if r then option_map OfRule (rule_of ws)
        else (if q then query_of ws else None))))))) ≡ []
    go true c s h f v r q = weights (weights_of ws)
    go false true s h f v r q = names Controls (λ xs. refl) (names_of ws)
    go false false true h f v r q = cc
    go false false false h true v r q = names Facts (λ xs. refl) (names_of ws)
    go false false false h false true r q = names Variables (λ xs. refl) (names_of ws)
    go false false false h false false true q = rules (rule_of ws)
    go false false false h false false false true = queries
    go false false false h false false false false = refl

-- nor does a query
pub query_symbols : (w : Word) (ws : List Word) → is_name (codes "query") w ≡ true → symbols_in (form_behind w ws) ≡ []
query_symbols w ws h = other_symbols w ws (ap (is_name (codes "symbols")) (name_is (codes "query") w h))

-- what a line declares of symbols, by its first word
pub declares_symbols : (line : List ℕ) (w : Word) (ws : List Word) → line_form line ≡ form_behind w ws → is_name (codes "symbols") w ≡ true → names_of ws ≡ Some (names_in ws) → declared_on Symbols line ≡ names_in ws
declares_symbols line w ws e h n = ap symbols_in (e ∙ symbols_behind w ws h ∙ ap (option_map (OfNames Symbols)) n)

pub declares_none : (line : List ℕ) (w : Word) (ws : List Word) → line_form line ≡ form_behind w ws → is_name (codes "symbols") w ≡ true → names_of ws ≡ None → declared_on Symbols line ≡ []
declares_none line w ws e h n = ap symbols_in (e ∙ symbols_behind w ws h ∙ ap (option_map (OfNames Symbols)) n)

pub declares_other : (line : List ℕ) (w : Word) (ws : List Word) → line_form line ≡ form_behind w ws → is_name (codes "symbols") w ≡ false → declared_on Symbols line ≡ []
declares_other line w ws e h = ap symbols_in e ∙ other_symbols w ws h

pub formless_declares : (line : List ℕ) → line_form line ≡ None → declared_on Symbols line ≡ []
formless_declares line e = ap symbols_in e
