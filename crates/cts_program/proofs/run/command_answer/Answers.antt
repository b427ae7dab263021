use Rattle.command_line.proofs.PlainCommands.{corners_within}
use Rattle.cts_program.proofs.CommandLemmas.{demo_step}
use Rattle.cts_program.proofs.DemoValues.{demo_values, margin_value}
use Rattle.cts_program.proofs.run.command_answer.Goals as goal

pub returns-in-Zero : goal.returns-in-Zero
returns-in-Zero g c = rw c.in-Zero.is c.zero_command.ensures

pub returns-in-Period : goal.returns-in-Period
returns-in-Period g c = rw c.in-Period.is c.period_command.ensures

pub returns-in-Schedule : goal.returns-in-Schedule
returns-in-Schedule g c = rw c.in-Schedule.is c.schedule_command.ensures

pub returns-in-Synth : goal.returns-in-Synth
returns-in-Synth g c = rw c.in-Synth.is c.synth_command.ensures

pub returns-in-Check : goal.returns-in-Check
returns-in-Check g c = rw c.in-Check.is c.check_command.ensures

pub returns-in-Margin : goal.returns-in-Margin
returns-in-Margin g c = rw c.in-Margin.is c.margin_command.ensures

pub returns-in-Embed : goal.returns-in-Embed
returns-in-Embed g c = rw c.in-Embed.is c.embed_command.ensures

pub returns-in-Moves : goal.returns-in-Moves
returns-in-Moves g c = rw c.in-Moves.is c.moves_command.ensures

pub returns-in-Corners : goal.returns-in-Corners
returns-in-Corners g c = rw c.in-Corners.is c.corners_command.ensures

pub returns-in-Demo : goal.returns-in-Demo
returns-in-Demo g c =
    rw c.in-Demo.is (demo_step c.in-Demo.registers c.in-Demo.seed c.demo.result c.demo.ensures.ok
    c.demo.ensures.cause)

pub demo-requires-clause-registers : goal.demo-requires-clause-registers
demo-requires-clause-registers g c =
    (demo_values c.in-Demo.registers c.in-Demo.seed (rw c.in-Demo.is at c.requires.values)).0

pub demo-requires-clause-seed : goal.demo-requires-clause-seed
demo-requires-clause-seed g c =
    (demo_values c.in-Demo.registers c.in-Demo.seed (rw c.in-Demo.is at c.requires.values)).1

pub margin_command-requires : goal.margin_command-requires
margin_command-requires g c =
    margin_value c.in-Margin.bench c.in-Margin.tech c.in-Margin.period
    (rw c.in-Margin.is at c.requires.values)

pub corners_command-requires-clause-some : goal.corners_command-requires-clause-some
corners_command-requires-clause-some g c =
    (corners_within c.in-Corners.bench c.in-Corners.tables
    (rw c.in-Corners.is at c.requires.tables)).0

pub corners_command-requires-clause-few : goal.corners_command-requires-clause-few
corners_command-requires-clause-few g c =
    (corners_within c.in-Corners.bench c.in-Corners.tables
    (rw c.in-Corners.is at c.requires.tables)).1
