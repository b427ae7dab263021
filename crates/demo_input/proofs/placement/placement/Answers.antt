use Rattle.std.proofs.Common.{ℕ, ◌++◌, ◌∙◌, length, codes, length-append, ap, arith}
use Rattle.demo_input.specs.Lines.{lines_for_each}
use Rattle.demo_input.specs.PlacementLines.{place_line, placement_text}
use Rattle.demo_input.proofs.LineLemmas.{last_line}
use Rattle.demo_input.proofs.LineLengths.{places_within}
use Rattle.demo_input.proofs.placement.placement.Goals as goal

pub returns-clause-value : goal.returns-clause-value
unfolding placement_text
returns-clause-value c =
    let header = codes "UCLA pl 1.0\n" in
    c.from_vec.ensures
    ∙ last_line (lines_for_each (place_line c.args.seed) c.args.registers) header
    (codes "CLK 500 500 : N /FIXED") c.extend_from_slice.new.self.items
    c.push_places.new.out.items c.extend_from_slice-2.new.self.items
    (c.in_ok-extend_from_slice.ensures.items
    ∙ ap (λ bytes. bytes ++ header) c.new-out.ensures.items)
    c.in_ok-push_places.ensures c.in_ok-extend_from_slice-2.ensures.items

pub returns-clause-short : goal.returns-clause-short
returns-clause-short c =
    omega (
      arith,
      length-append {A = ℕ},
      ap length c.from_vec.ensures,
      ap length c.in_ok-extend_from_slice.ensures.items,
      ap length c.in_ok-push_places.ensures,
      ap length c.in_ok-extend_from_slice-2.ensures.items,
      places_within c.args.registers c.args.seed c.requires.few,
    )
