-- Weights are read as they are written.
use Rattle.std.proofs.Common.{ℕ, ◌^◌, ◌<◌, ◌≤◌, List, [], ◌∷◌, length, Some, None, refl, ap, ◌∙◌, decimal}
use Rattle.std.specs.Prelude.{All, codes, nat_le}
use Rattle.wpds_base.specs.Limits.{most_bytes}
use Rattle.wpds_base.specs.Lists.{IsOnce}
use Rattle.wpds_port.specs.declared.Mark.TheVariants.{Colon}
use Rattle.wpds_port.specs.declared.Word.TheVariants.{Name, Number, Mark as Sign}
use Rattle.document_forms.specs.declared.weight.WeightsLine.{WeightsLine}
use Rattle.document_forms.specs.declared.weight.WeightsLine.TheVariants.{Cost, GenKill, Copy, Relation}
use Rattle.document_forms.specs.declared.weight.WeightText.{WeightText}
use Rattle.document_forms.specs.declared.weight.WeightText.TheVariants.{One, Zero, Number as Cost_, Facts, Forms, Actions}
use Rattle.document_forms.specs.Weights.{OneForm, NoneForm, NumberForm}
use Rattle.document_forms.specs.Documents.{Document, reads_as}
use Rattle.document_forms.specs.Writing.{written}
use Rattle.document_forms.specs.Lawful.{IsName, IsWeightText, IsDocument}
use Rattle.document_forms.proofs.WrittenWordLemmas.{OneCutting, says_word, say_more, say_one}
use Rattle.document_forms.proofs.WrittenNameLemmas.{number_written, says_number}
use Rattle.document_forms.proofs.WrittenQueryLemmas.{not_full}
use Rattle.document_forms.proofs.WrittenRuleLemmas.{WeightIs}
use Rattle.document_forms.proofs.WrittenFactLemmas.{facts_are}
use Rattle.document_forms.proofs.WrittenCopyLemmas.{forms_are}
use Rattle.document_forms.proofs.WrittenExpressionLemmas.{OneTree}
use Rattle.document_forms.proofs.WrittenActionLemmas.{actions_are}
use Rattle.document_forms.proofs.WrittenDocumentLemmas.{read_back}

module _ (names : List (List ℕ)) (named : All IsName names) (once : IsOnce names) where
  pub one_is : (u : WeightsLine) → WeightIs u names One
  one_is u = record {
    words = None;
    form = OneForm;
    says = refl;
    stays = refl;
    reads = refl;
    known = refl;
    lawful = refl;
    shallow = refl;
    value = refl;
  }

  pub zero_is : (u : WeightsLine) → WeightIs u names Zero
  zero_is u = record {
    words = Some (Name (codes "none") ∷ []);
    form = NoneForm;
    says =
        say_more (codes ":") (codes "none" ∷ []) (Sign Colon ∷ []) (Name (codes "none") ∷ []) (says_word (Sign Colon) refl refl)
        (say_one (codes "none") (Name (codes "none") ∷ []) (says_word (Name (codes "none")) refl refl));
    stays = refl;
    reads = refl;
    known = refl;
    lawful = refl;
    shallow = refl;
    value = refl;
  }

  pub cost_is : (cap n : ℕ) → n < 2 ^ 64 → WeightIs (Cost cap) names (Cost_ n)
  cost_is cap n l = record {
    words = Some (Number (decimal n) ∷ []);
    form = NumberForm (decimal n);
    says =
        say_more (codes ":") (decimal n ∷ []) (Sign Colon ∷ []) (Number (decimal n) ∷ []) (says_word (Sign Colon) refl refl)
        (say_one (decimal n) (Number (decimal n) ∷ []) (says_number n l));
    stays = refl;
    reads = refl;
    known = refl;
    lawful = ap (λ k. nat_le (2 ^ 64) k) (number_written n l) ∙ not_full (2 ^ 64) n l;
    shallow = refl;
    value = ap Cost_ (number_written n l);
  }

  -- every weight of a document
  pub weight_is : OneTree → (u : WeightsLine) (w : WeightText) → IsWeightText u (length names) w → WeightIs u names w
  weight_is tree u One h = one_is u
  weight_is tree u Zero h = zero_is u
  weight_is tree (Cost cap) (Cost_ n) h = cost_is cap n h
  weight_is tree GenKill (Facts ss) h = facts_are names named once ss h
  weight_is tree Copy (Forms ps) h = forms_are names named once ps h.0 h.1
  weight_is tree Relation (Actions acts) h = actions_are names named once tree acts h.0 h.1
  weight_is tree _ _ h = absurd h

-- ---- documents

-- what is written of a document of some bytes is read as it
pub written_again : OneCutting → OneTree → (d : Document) → IsDocument d → length (written d) ≤ most_bytes → reads_as (written d) d
written_again cut tree d h l = read_back d h (weight_is d.items h.items.lawful h.items.once tree d.weights) cut l
