-- Rule files run in the order of their texts NAMESPACE/NAME.
use Rattle.std.specs.Prelude.{List, [], fold}
use Rattle.op_base.specs.Maps.{Map, values_of, with_entry}
use Rattle.cfg_types.specs.declared.config.RuleFile.{RuleFile}
use Rattle.cfg_types.specs.Written.{file_text}

-- files by their texts
abbrev pub files_by_text : List RuleFile → Map RuleFile
files_by_text files = fold (λ placed file. with_entry placed (file_text file) file) [] files

-- files in the order of their texts
abbrev pub in_order : List RuleFile → List RuleFile
in_order files = values_of (files_by_text files)
