-- What the reader's tokens and lines are in the terms of the format.
use Rattle.bench_reader.specs.declared.token.Token.{Token}
use Rattle.bench_reader.specs.declared.token.Token.TheVariants as read
use Rattle.bench_reader.specs.declared.statement.Statement.{Statement}
use Rattle.bench_reader.specs.declared.statement.Statement.TheVariants.{Blank, Input, Output, Assign}
use Rattle.cts_model.specs.text.Tokens as format
use Rattle.cts_model.specs.netlist.Statements as formats

-- a token, wherever its bytes lie
abbrev pub token_of : Token → format.Token
token_of (read.Word bytes) = format.Word bytes.now
token_of read.Open = format.Open
token_of read.Close = format.Close
token_of read.Comma = format.Comma
token_of read.Equals = format.Equals
token_of read.Stray = format.Stray

-- what a line says, wherever its names lie
abbrev pub said_by : Statement → formats.Statement
said_by Blank = formats.Blank
said_by (Input name) = formats.Input name.now
said_by (Output name) = formats.Output name.now
said_by (Assign name word inputs) = formats.Assign name.now word.now inputs
