-- What was copied so far are the first texts.
use Rattle.std.proofs.Common.{◌≡◌, take}
use Rattle.gen_scrape.proofs.steps.copy_texts.Given as goal

abbrev pub invariant-loop-text : goal.invariant-loop-text
invariant-loop-text l = l.copies ≡ take l.text-index l.texts
