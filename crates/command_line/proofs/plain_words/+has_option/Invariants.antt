use Rattle.std.proofs.Common.{length}
use Rattle.command_line.proofs.plain_words.+has_option.Given as goal

abbrev pub decreases-has_option : goal.decreases-has_option
decreases-has_option l = length l.words.now
