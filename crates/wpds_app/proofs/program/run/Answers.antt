use Rattle.wpds_app.proofs.RequestLemmas.{accepted, answers}
use Rattle.std.proofs.Common.{map}
use Rattle.std.specs.String.{string_bytes}
use Rattle.wpds_app.proofs.program.run.Goals as goal

pub returns-in-Ok-reply_to_request-clause-words_accepted : goal.returns-in-Ok-reply_to_request-clause-words_accepted
returns-in-Ok-reply_to_request-clause-words_accepted g c = λ unrefused unfaulted memory.
    accepted (map string_bytes c.args.words.now) c.in-Ok.request c.in-Ok.ensures.request _ _ c.in-Ok-reply_to_request.reply.status c.finish.result c.in-Ok-reply_to_request.reply.text
    c.in-Ok-reply_to_request.ensures.outcome c.finish.ensures.status unrefused unfaulted

pub returns-in-Ok-reply_to_request-clause-exactly : goal.returns-in-Ok-reply_to_request-clause-exactly
returns-in-Ok-reply_to_request-clause-exactly g c = λ options bytes check told done.
    answers (map string_bytes c.args.words.now) c.in-Ok.request c.in-Ok.ensures.request _ _ c.in-Ok-reply_to_request.reply.status c.finish.result c.in-Ok-reply_to_request.reply.text
    c.in-Ok-reply_to_request.ensures.outcome c.finish.ensures.status c.no_input_is_accepted_and_refused.ensures options bytes check told done
