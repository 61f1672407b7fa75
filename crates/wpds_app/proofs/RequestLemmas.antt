-- What comes of what the words ask for.
use Rattle.std.proofs.Common.{◌≡◌, ◌≢◌, ◌↔◌, ◌⊎◌, ℕ, take, inl, inr, List, Option, Some, None, refl, sym, ◌∙◌, subst}
use Rattle.wpds_port.specs.Writing.{AppendsPart}
use Rattle.std.specs.Io.KnownBytes.{Appends}
use Rattle.command_words.specs.Commands.{request_of}
use Rattle.report_text.specs.declared.options.Options.{Options}
use Rattle.command_words.specs.declared.options.Request.{Request}
use Rattle.command_words.specs.declared.options.Request.TheVariants.{Help, Version, Check, Generate}
use Rattle.wpds_app.specs.declared.status.Status.{Status}
use Rattle.wpds_app.specs.declared.status.Status.TheVariants.{WordsRefused, WriteFault, OutOfMemory}
use Rattle.wpds_app.specs.Commands.{IsCommand, IsCheck}
use Rattle.wpds_app.specs.Running.{HasReply, IsOutcome, IsDecided, IsDecidedBy, Replies, IsCutShort}
use Rattle.wpds_app.proofs.InputLemmas.{NeverBoth}
use Rattle.wpds_app.proofs.ReplyLemmas.{reply_decides, sent_decided}

-- an outcome is that words are refused, or what they ask for
outcome_is : (request : Option Request) (before now : Option (List ℕ)) (status : Status) (text : List ℕ) → IsOutcome request before now status text
    → ((request ≡ None) × (status ≡ WordsRefused)) ⊎ (((r : Request) × (request ≡ Some r)) × IsDecided status)
outcome_is None before now status text outcome = inl (refl, outcome.0)
outcome_is (Some Help) before now status text outcome = inr ((Help, refl), inl outcome.0)
outcome_is (Some Version) before now status text outcome = inr ((Version, refl), inl outcome.0)
outcome_is (Some (Check options)) before now status text outcome = inr ((Check options, refl), reply_decides outcome.input options text status outcome.reply)
outcome_is (Some (Generate g)) before now status text outcome = inr ((Generate g, refl), inl outcome.0)

decided_unrefused : (status : Status) → IsDecided status → status ≡ WordsRefused → ⊥
decided_unrefused status (inl e) refused = cc
decided_unrefused status (inr e) refused = cc

-- no outcome is a fault of the sink
pub outcome_unfaulted : (request : Option Request) (before now : Option (List ℕ)) (status : Status) (text : List ℕ) → IsOutcome request before now status text → status ≢ WriteFault
outcome_unfaulted request before now status text outcome fault = go (outcome_is request before now status text outcome)
  where
    go : ((request ≡ None) × (status ≡ WordsRefused)) ⊎ (((r : Request) × (request ≡ Some r)) × IsDecided status) → ⊥
    go (inl (none, refused)) = cc
    go (inr (some, inl answered)) = cc
    go (inr (some, inr refused)) = cc

-- An outcome was sent, if no fault came.
module _
    (words : List (List ℕ)) (request : Option Request) (asked : request ≡ request_of words) (before now : Option (List ℕ)) (status sent : Status) (text : List ℕ)
    (outcome : IsOutcome request before now status text) (kept : sent ≢ WriteFault → sent ≡ status)
  where
    command : (r : Request) → request ≡ Some r → IsCommand words
    command r is = (r, sym asked ∙ is)

    uncommanded : request ≡ None → IsCommand words → ⊥
    uncommanded none (r, is) = let bad : None ≡ Some r = sym none ∙ asked ∙ is in cc

    refused_as : sent ≡ WordsRefused → (IsCommand words → ⊥) × ((sent ≢ WriteFault) × (sent ≢ OutOfMemory))
    refused_as refused = (go (outcome_is request before now status text outcome), ((λ fault. cc), (λ memory. cc)))
      where
        same : status ≡ WordsRefused
        same = sym (kept (λ fault. let bad : WordsRefused ≡ WriteFault = sym refused ∙ fault in cc)) ∙ refused

        go : ((request ≡ None) × (status ≡ WordsRefused)) ⊎ (((r : Request) × (request ≡ Some r)) × IsDecided status) → IsCommand words → ⊥
        go (inl (none, is)) = uncommanded none
        go (inr (some, decided)) = λ asks. decided_unrefused status decided same

    refused_unless : (IsCommand words → ⊥) → sent ≢ WriteFault → sent ≡ WordsRefused
    refused_unless none unfaulted = go (outcome_is request before now status text outcome)
      where
        go : ((request ≡ None) × (status ≡ WordsRefused)) ⊎ (((r : Request) × (request ≡ Some r)) × IsDecided status) → sent ≡ WordsRefused
        go (inl (is, refused)) = kept unfaulted ∙ refused
        go (inr ((r, is), decided)) = absurd (none (command r is))

    pub refused : (sent ≡ WordsRefused) ↔ ((IsCommand words → ⊥) × ((sent ≢ WriteFault) × (sent ≢ OutOfMemory)))
    refused = (refused_as, λ all. refused_unless all.0 all.1.0)

    pub accepted : sent ≢ WordsRefused → sent ≢ WriteFault → IsCommand words
    accepted unrefused unfaulted = go (outcome_is request before now status text outcome)
      where
        go : ((request ≡ None) × (status ≡ WordsRefused)) ⊎ (((r : Request) × (request ≡ Some r)) × IsDecided status) → IsCommand words
        go (inl (is, refused)) = absurd (unrefused (kept unfaulted ∙ refused))
        go (inr ((r, is), decided)) = command r is

    pub decides : IsCommand words → sent ≢ WriteFault → IsDecided sent
    decides asks unfaulted = go (outcome_is request before now status text outcome)
      where
        go : ((request ≡ None) × (status ≡ WordsRefused)) ⊎ (((r : Request) × (request ≡ Some r)) × IsDecided status) → IsDecided sent
        go (inl (none, refused)) = absurd (uncommanded none asks)
        go (inr (some, decided)) = subst IsDecided (sym (kept unfaulted)) decided

    pub replied : (written_before written_now : Option (List ℕ)) → sent ≢ WriteFault → Appends written_before written_now text
        → Replies words before now written_before written_now sent
    replied written_before written_now unfaulted written = record {
      text = text;
      outcome = subst (λ s. IsOutcome (request_of words) before now s text) (sym (kept unfaulted)) (subst (λ r. IsOutcome r before now status text) asked outcome);
      written = written;
    }

    pub cut_short : (written_before written_now : Option (List ℕ)) → AppendsPart written_before written_now text
        → IsCutShort words before now written_before written_now
    cut_short written_before written_now written = record {
      status = status;
      text = text;
      outcome = subst (λ r. IsOutcome r before now status text) asked outcome;
      written = written;
    }

    -- the answers to a document are those to its bytes
    pub answers : NeverBoth → (options : Options) (bytes : List ℕ) → IsCheck words options → before ≡ Some bytes → IsDecided sent → IsDecidedBy (take 4194305 bytes) sent
    answers both options bytes check told done =
        let has : HasReply before now options status text = subst (λ r. IsOutcome r before now status text) (asked ∙ check) outcome in
        sent_decided both bytes options text before now status sent told has kept done
