use Rattle.std.proofs.Common.{length}
use Rattle.command_line.proofs.plain_words.+are_file_names.Given as goal

abbrev pub decreases-are_file_names : goal.decreases-are_file_names
decreases-are_file_names l = length l.words.now
