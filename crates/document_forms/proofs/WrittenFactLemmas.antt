-- Weights over facts are read as they are written.
use Rattle.std.proofs.Common.{◌≡◌, ◌≢◌, ℕ, ◌<◌, Bool, true, false, not, List, [], ◌∷◌, ◌++◌, map, length, Some, refl, sym, ap, ap₂, ◌∙◌, subst}
use Rattle.std.specs.Prelude.{All, bytes_eq, codes, flat_map, if◌then◌else◌, option_map}
use Rattle.std.specs.List.{list_all}
use Rattle.std.proofs.lemmas.Bool.{and_parts, and_from}
use Rattle.std.proofs.lemmas.List.Elements.{All-head, All-tail}
use Rattle.wpds_base.specs.Lists.{IsOnce}
use Rattle.wpds_port.specs.declared.Mark.TheVariants.{Colon, Plus, Minus}
use Rattle.wpds_port.specs.declared.Word.{Word}
use Rattle.wpds_port.specs.declared.Word.TheVariants.{Name, Mark as Sign}
use Rattle.wpds_port.specs.Tokens.{begins_name, goes_on_name, is_name_text, stops}
use Rattle.document_forms.specs.declared.weight.WeightsLine.TheVariants.{GenKill}
use Rattle.document_forms.specs.declared.weight.FactSign.{FactSign}
use Rattle.document_forms.specs.declared.weight.WeightText.TheVariants.{Facts}
use Rattle.document_forms.specs.Names.{has_twice, has_unknown, name}
use Rattle.document_forms.specs.Words.{is_return, ◌>>=◌}
use Rattle.document_forms.specs.Weights.{SignForm, SignsForm, sign_of, signs}
use Rattle.document_forms.specs.FormWords.{has_none}
use Rattle.document_forms.specs.Kinds.{rule_weight}
use Rattle.document_forms.specs.Documents.{sign_value}
use Rattle.document_forms.specs.Writing.{sign_text}
use Rattle.document_forms.specs.Lawful.{AreBelow, AreSome, IsName}
use Rattle.document_forms.proofs.LawfulLemmas.{unmapped_some}
use Rattle.document_forms.proofs.WrittenWordLemmas.{Says, says_word, says_glued, SayAll, say_more}
use Rattle.document_forms.proofs.WrittenNameLemmas.{number_named, names_known, none_named_twice, name_at, says_named}
use Rattle.document_forms.proofs.WrittenMapLemmas.{no_word, begins_other}
use Rattle.document_forms.proofs.WrittenRuleLemmas.{WeightIs}

module _ (names : List (List ℕ)) (named : All IsName names) (once : IsOnce names) where
  abbrev facts : List FactSign → List ℕ
  facts ss = map (λ s. s.fact) ss

  abbrev sign_form : FactSign → SignForm
  sign_form s = record { plus = s.plus; fact = name names s.fact }

  abbrev sign_words : FactSign → List Word
  sign_words s = Sign (if s.plus then Plus else Minus) ∷ Name (name names s.fact) ∷ []

  plus_stops : (x : List ℕ) → stops (Sign Plus) x ≡ true
  plus_stops [] = refl
  plus_stops (b ∷ x) = refl

  minus_stops : (x rest : List ℕ) → is_name_text x ≡ true → stops (Sign Minus) (x ++ rest) ≡ true
  minus_stops [] rest h = cc
  minus_stops (b ∷ x) rest h = begins_other b 62 refl (and_parts (begins_name b) (list_all goes_on_name x) h).0

  says_sign : (s : FactSign) → s.fact < length names → Says (sign_text names s) (sign_words s)
  says_sign s l = go s.plus
    where
      go : (b : Bool) → Says ((if b then codes "+" else codes "-") ++ name names s.fact) (Sign (if b then Plus else Minus) ∷ Name (name names s.fact) ∷ [])
      go true = says_glued (Sign Plus) (name names s.fact) (Name (name names s.fact) ∷ []) refl refl (λ rest. plus_stops (name names s.fact ++ rest)) (says_named names s.fact named l)
      go false = says_glued (Sign Minus) (name names s.fact) (Name (name names s.fact) ∷ []) refl refl (λ rest. minus_stops (name names s.fact) rest (name_at names s.fact named l).text) (says_named names s.fact named l)

  say_signs : (ss : List FactSign) → AreBelow (length names) (facts ss) → SayAll (map (sign_text names) ss) (flat_map sign_words ss)
  say_signs [] b = refl
  say_signs (s ∷ ss) b =
      say_more (sign_text names s) (map (sign_text names) ss) (sign_words s) (flat_map sign_words ss)
      (says_sign s (All-head (λ n. n < length names) s.fact (facts ss) b)) (say_signs ss (All-tail (λ n. n < length names) s.fact (facts ss) b))

  signs_stay : (ss : List FactSign) → AreBelow (length names) (facts ss) → has_none is_return (flat_map sign_words ss) ≡ true
  signs_stay [] b = refl
  signs_stay (s ∷ ss) b =
      and_from (not (bytes_eq (codes "return") (name names s.fact))) (has_none is_return (flat_map sign_words ss))
      (ap not (no_word (codes "return") (name names s.fact) refl (name_at names s.fact named (All-head (λ n. n < length names) s.fact (facts ss) b))))
      (signs_stay ss (All-tail (λ n. n < length names) s.fact (facts ss) b))

  sign_again : (b : Bool) → sign_of (Sign (if b then Plus else Minus)) ≡ Some b
  sign_again true = refl
  sign_again false = refl

  signs_again : (ss : List FactSign) → signs (flat_map sign_words ss) ≡ Some (map sign_form ss)
  signs_again [] = refl
  signs_again (s ∷ ss) =
      ap (λ o. o >>= λ plus. signs (flat_map sign_words ss) >>= λ more. Some (record { plus = plus; fact = name names s.fact } ∷ more)) (sign_again s.plus)
      ∙ ap (λ o. o >>= λ more. Some (sign_form s ∷ more)) (signs_again ss)

  facts_read : (ss : List FactSign) → ss ≢ [] → rule_weight GenKill (Some (flat_map sign_words ss)) ≡ Some (SignsForm (map sign_form ss))
  facts_read [] s = absurd (s refl)
  facts_read (t ∷ ss) s = ap (option_map SignsForm) (signs_again (t ∷ ss))

  facts_named : (ss : List FactSign) → map (λ s. s.fact) (map sign_form ss) ≡ map (name names) (facts ss)
  facts_named [] = refl
  facts_named (s ∷ ss) = ap (λ xs. name names s.fact ∷ xs) (facts_named ss)

  value_signs : (ss : List FactSign) → AreBelow (length names) (facts ss) → map (sign_value names) (map sign_form ss) ≡ ss
  value_signs [] b = refl
  value_signs (s ∷ ss) b =
      ap₂ (λ k xs. record { fact = k; plus = s.plus } ∷ xs) (number_named names s.fact once (All-head (λ n. n < length names) s.fact (facts ss) b))
      (value_signs ss (All-tail (λ n. n < length names) s.fact (facts ss) b))

  pub facts_are : (ss : List FactSign) → AreSome (length names) (facts ss) → WeightIs GenKill names (Facts ss)
  facts_are ss h = record {
    words = Some (flat_map sign_words ss);
    form = SignsForm (map sign_form ss);
    says = say_more (codes ":") (map (sign_text names) ss) (Sign Colon ∷ []) (flat_map sign_words ss) (says_word (Sign Colon) refl refl) (say_signs ss h.below);
    stays = signs_stay ss h.below;
    reads = facts_read ss (unmapped_some (λ s. s.fact) ss h.some);
    known = subst (λ xs. has_unknown names xs ≡ false) (sym (facts_named ss)) (names_known names (facts ss) h.below);
    lawful = subst (λ xs. has_twice xs ≡ false) (sym (facts_named ss)) (none_named_twice names (facts ss) once h.below h.once);
    shallow = refl;
    value = ap Facts (value_signs ss h.below);
  }
