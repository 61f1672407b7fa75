-- Answers to inputs.
use Rattle.std.proofs.Common.{◌≡◌, ◌≢◌, ℕ, Bool, true, false, nat_lt, ◌<◌, ◌≤◌, inl, inr, List, [], ◌∷◌, ◌++◌, length, take, refl, sym, ap, ◌∙◌, subst, arith, append-nil}
use Rattle.std.proofs.lemmas.Bool.{ltb-true, ltb-false}
use Rattle.std.proofs.Math.Seq.{take-append_seam}
use Rattle.std.specs.Prelude.{Result, Ok, Err, IfOk, MatchResult, Option, None, Some}
use Rattle.std.proofs.lemmas.List.{take_all}
use Rattle.wpds_port.specs.Refusals.{refusal_text}
use Rattle.wpds_port.specs.declared.refusal.Refusal.{Refusal}
use Rattle.wpds_app.specs.declared.input.Input.{Input}
use Rattle.report_text.specs.declared.options.Options.{Options}
use Rattle.wpds_app.specs.declared.status.Status.{Status}
use Rattle.wpds_app.specs.declared.status.Status.TheVariants.{Answered, WordsRefused, ReadFault, WriteFault, DocumentRefused, OutOfMemory}
use Rattle.wpds_app.specs.declared.reply.Reply.{Reply}
use Rattle.wpds_port.specs.declared.refusal.ReadFault.{ReadFault as ReadFaultValue}
use Rattle.wpds_port.specs.declared.refusal.ReadFault.TheVariants.{Refused}
use Rattle.wpds_app.specs.Running.{IsInput, Means, IsRefused, IsUnread, IsReply, HasReply, IsDecided, IsDecidedBy}
use Rattle.wpds_app.proofs.InputLemmas.{NeverBoth}

-- a refusal's line is the answer to an input that it refuses
pub refused_replies : {E : Type 0} (input : List ℕ) (options : Options) (refusal : Refusal) (r : Result Reply E) → IfOk r (λ x. x.status ≡ DocumentRefused)
    → IfOk r (λ x. x.text ≡ refusal_text refusal ++ 10 ∷ []) → IsRefused input refusal → IfOk r (λ x. IsReply input options x.status x.text)
refused_replies input options refusal (Ok x) status text refused = subst (λ s. IsReply input options s x.text) (sym status) (refusal, refused, text)
refused_replies input options refusal (Err e) status text refused = tt

decided : NeverBoth → (input : List ℕ) (options : Options) (text : List ℕ) (status : Status) → IsReply input options status text → IsDecidedBy input status
decided both input options text Answered reply = record {
  answered = (λ _. (reply.0, reply.1), λ _. refl);
  refused = (λ e. cc, λ r. absurd (both input reply.0 r.0 reply.1 r.1));
}
decided both input options text DocumentRefused reply = record {
  answered = (λ e. cc, λ d. absurd (both input d.0 reply.0 d.1 reply.1));
  refused = (λ _. (reply.0, reply.1), λ _. refl);
}
decided both input options text WordsRefused reply = absurd reply
decided both input options text ReadFault reply = absurd reply
decided both input options text WriteFault reply = absurd reply
decided both input options text OutOfMemory reply = absurd reply

beginning_by : (b : Bool) (n : ℕ) (bytes input rest : List ℕ) → nat_lt (length input) n ≡ b → bytes ≡ input ++ rest → length input ≤ n → (length input < n → rest ≡ []) → input ≡ take n bytes
beginning_by true n bytes input rest test joined within whole =
    let all : bytes ≡ input = joined ∙ ap (λ r. input ++ r) (whole (ltb-true (length input) n test)) ∙ append-nil input in
    sym (ap (take n) all ∙ take_all n input within)
beginning_by false n bytes input rest test joined within whole =
    let long : n ≡ length input = omega (arith, ltb-false (length input) n test) in
    sym (ap (take n) joined ∙ ap (λ k. take k (input ++ rest)) long ∙ take-append_seam input rest)

-- the input is the first bytes of what was left
input_is : (bytes input : List ℕ) (left_now : Option (List ℕ)) → IsInput (Some bytes) left_now input → input ≡ take 4194305 bytes
input_is bytes input None read = absurd read.consumed
input_is bytes input (Some rest) read = beginning_by _ 4194305 bytes input rest refl read.consumed read.limit read.whole

decided_unfaulted : (status : Status) → IsDecided status → status ≢ WriteFault
decided_unfaulted status (inl e) fault = cc
decided_unfaulted status (inr e) fault = cc

-- where the source tells its bytes, they decide
decided_by : NeverBoth → (bytes : List ℕ) (options : Options) (text : List ℕ) (left_before left_now : Option (List ℕ)) (status : Status) → left_before ≡ Some bytes → HasReply left_before left_now options status text → IsDecidedBy (take 4194305 bytes) status
decided_by both bytes options text before now status told has =
    let read : IsInput (Some bytes) now has.input = subst (λ o. IsInput o now has.input) told has.read in
    subst (λ i. IsDecidedBy i status) (input_is bytes has.input now read) (decided both has.input options text status has.reply)

-- the answer that was sent, if no fault came
pub sent_decided : NeverBoth → (bytes : List ℕ) (options : Options) (text : List ℕ) (left_before left_now : Option (List ℕ)) (status sent : Status) → left_before ≡ Some bytes → HasReply left_before left_now options status text
    → (sent ≢ WriteFault → sent ≡ status) → IsDecided sent → IsDecidedBy (take 4194305 bytes) sent
sent_decided both bytes options text before now status sent told has kept done =
    subst (IsDecidedBy (take 4194305 bytes)) (sym (kept (decided_unfaulted sent done))) (decided_by both bytes options text before now status told has)

pub reply_decides : (input : List ℕ) (options : Options) (text : List ℕ) (status : Status) → IsReply input options status text → IsDecided status
reply_decides input options text Answered reply = inl refl
reply_decides input options text DocumentRefused reply = inr refl
reply_decides input options text WordsRefused reply = absurd reply
reply_decides input options text ReadFault reply = absurd reply
reply_decides input options text WriteFault reply = absurd reply
reply_decides input options text OutOfMemory reply = absurd reply

-- what an input means, and why it is refused, if that is its meaning's call's result
module _ (input : List ℕ) (r : Result Input ReadFaultValue) (told : MatchResult r (Means input) (IsUnread input)) where
  pub meant_as : (meaning : Input) → r ≡ Ok meaning → Means input meaning
  meant_as meaning is = subst (λ x. MatchResult x (Means input) (IsUnread input)) is told

  pub refused_as : (refusal : Refusal) → r ≡ Err (Refused refusal) → IsRefused input refusal
  refused_as refusal is = subst (λ x. MatchResult x (Means input) (IsUnread input)) is told
