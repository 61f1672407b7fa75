-- What is written for words alone.
use Rattle.std.specs.Prelude.{◌≡◌, ℕ, List, ◌++◌, Some, codes}
use Rattle.command_words.specs.Commands.{request_of}
use Rattle.report_text.specs.declared.options.Options.{Options}
use Rattle.command_words.specs.declared.options.Request.{Request}
use Rattle.command_words.specs.declared.options.Request.TheVariants.{Check}

-- the words ask for something that the program does
abbrev pub IsCommand : List (List ℕ) → Type 0
IsCommand words = (request : Request) × (request_of words ≡ Some request)

-- they ask for the answers to a document
abbrev pub IsCheck : List (List ℕ) → Options → Type 0
IsCheck words options = request_of words ≡ Some (Check options)

abbrev pub usage_text : List ℕ
usage_text =
    codes "usage: wpds check [--workers N] [--by pre|post] [--brief] [--traces]\n"
    ++ codes "usage: wpds gen N [--workers N] [--by pre|post]\n"

abbrev pub version_text : List ℕ
version_text = codes "wpds 0.1.0\n"

abbrev pub help_text : List ℕ
help_text =
    codes "Says what the runs of a pushdown system are worth, or which points of a Boolean program\n"
    ++ codes "are reached, with runs that show it.\n\n"
    ++ codes "usage: wpds check [--workers N] [--by pre|post] [--brief] [--traces]\n"
    ++ codes "usage: wpds gen N [--workers N] [--by pre|post]\n\n"
    ++ codes "check            answers the queries of the document on standard input\n"
    ++ codes "gen N            answers a ladder of N rungs, from 1 to 10000, that it makes itself\n\n"
    ++ codes "--workers N      how many workers saturate, from 1 to 64 (1 if it is not given): two and\n"
    ++ codes "                 more have a thread each, and are quicker only where single weights are\n"
    ++ codes "                 heavy to work with (relations between many variables, Boolean programs\n"
    ++ codes "                 with large relations)\n"
    ++ codes "--by pre|post    backwards from where runs end, or forwards from where they begin\n"
    ++ codes "                 (pre if it is not given)\n"
    ++ codes "--brief          without the listing of the runs that a value combines; not with gen\n"
    ++ codes "--traces         these runs rule by rule, or of a program the states of one; not with gen\n"
    ++ codes "-h, --help       writes this text\n"
    ++ codes "-V, --version    writes the version\n\n"
    ++ codes "example: wpds check --by post --brief < examples/cost.wpds\n"
