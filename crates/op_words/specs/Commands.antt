-- How `clap` is told to read the words after the command, and what its matches give.
use Rattle.std.specs.Prelude.{◌≡◌, ℕ, List, Bool, true, false, Option, Some, is_some, option_map, option_and_then, codes, if◌then◌else◌}
use Rattle.clap.specs.Words.{App, Rule, first_value, new_app, new_rule, with_rule}
use Rattle.clap.specs.Simple.{on_top}
use Rattle.clap.specs.ValueTests.{accepts}
use Rattle.clap.specs.declared.builder.action.ArgAction.TheVariants.{SetTrue}
use Rattle.clap.specs.declared.builder.value_parser.ValueParser.{ValueParser}
use Rattle.clap.specs.declared.parser.matches.Found.{Found}
use Rattle.op_words.specs.declared.reading.Given.{Given}
use Rattle.op_words.specs.Readings.{part_named}

-- DIR
abbrev pub dir_rule : Rule
dir_rule = record (new_rule (codes "dir")) { required = true }

-- `--part PART`, whose value goes to the parser
abbrev pub part_rule : ValueParser → Rule
part_rule parser = record (new_rule (codes "part")) { long = Some (codes "part"); parser = Some parser }

-- `--each`
abbrev pub each_rule : Rule
each_rule = record (new_rule (codes "each")) { long = Some (codes "each"); action = Some SetTrue }

-- no program's name among the words, and no option for help
abbrev pub bare_app : App
bare_app =
    on_top (λ shape. record shape { no_binary_name = true; disable_help_flag = true })
    (new_app (codes "operator"))

-- the command for the words after the first
abbrev pub words_app : ValueParser → App
words_app parser = with_rule (with_rule (with_rule bare_app dir_rule) (part_rule parser)) each_rule

-- the parser takes the names of parts and nothing else
abbrev pub KnowsParts : ValueParser → Type 0
KnowsParts parser = (text : List ℕ) → accepts false parser text ≡ is_some (part_named text)

-- it is that command, with such a parser
abbrev pub IsWordsCommand : App → Type 0
IsWordsCommand app = (parser : ValueParser) × (app ≡ words_app parser) × KnowsParts parser

-- the text of a flag's value
abbrev pub flag_text : Bool → List ℕ
flag_text is_set = if is_set then codes "true" else codes "false"

-- what matches give, where the flag is or isn't there
abbrev pub given_by : Found → Bool → Option Given
given_by found each =
    option_map (λ dir. record {
      dir = dir;
      part = option_and_then part_named (first_value found (codes "part"));
      each = each;
    }) (first_value found (codes "dir"))
