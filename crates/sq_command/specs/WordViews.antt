-- What code reads of words, in the terms in which commands are told.
use Rattle.sq_command.specs.Commands.{Bad, Given, Opens, Piece, Plain, Whole}
use Rattle.std.specs.Borrow.{Bor}
use Rattle.sq_command.specs.declared.words.OptionGiven.{OptionGiven}
use Rattle.std.specs.Prelude.{List, Option, ℕ}
use Rattle.sq_command.specs.declared.words.Piece.{Piece as PieceRead}
use Rattle.sq_command.specs.declared.RunArgs.{RunArgs}
use Rattle.sq_command.specs.declared.words.RunWords.{RunWords}
use Rattle.sq_value.specs.CommandWords.{Word}
use Rattle.std.specs.Option.{option_map}
use Rattle.sq_command.specs.declared.words.Piece.TheVariants as read

abbrev pub text_view : Option (Bor (List ℕ)) → Option Word
text_view o = option_map (λ t. t.now) o

abbrev pub piece_view : PieceRead → Piece
piece_view (read.Plain value) = Plain value.now
piece_view (read.Whole name value) = Whole name.now value.now
piece_view (read.Opens name) = Opens name.now
piece_view read.Bad = Bad

abbrev pub given_view : OptionGiven → Given
given_view g = (text_view g.option, g.value.now)

abbrev pub wanted_view : RunWords → RunArgs
wanted_view a = record { net = a.net.now; capacities = text_view a.capacities; seed = a.seed; rule = a.rule; picks = text_view a.picks; train = a.train; frames = a.frames }
