use Rattle.report_text.proofs.Vocabulary.{length, refl, ap, sym, ◌∙◌, arith, w128, to_z-of_z, Words}
use Rattle.report_text.proofs.ScanLemmas.{form_read, takes_none, takes_then}
use Rattle.report_text.proofs.TreeLines.{no_points, points_are}
use Rattle.report_text.proofs.tree_values.NodeLineLine.read.Goals as goal

pub returns-in_default-clause-read : goal.returns-in_default-clause-read
returns-in_default-clause-read c =
    form_read (no_points c.args.rules.now.circuit.now c.args.rules.now.scale c.args.number _
    (λ points some few all. c.in_default.ensures.none refl points some few (c.len.ensures ∙ all)))
    (takes_none c.args.rules.now.circuit.now c.args.scan.now)
    (λ are holds. absurd (omega (arith, c.requires.some, ap (λ (ws : Words). length ws) are)))

pub returns-clause-read : goal.returns-clause-read
returns-clause-read c =
    let circuit = c.args.rules.now.circuit.now in
    let (all, some, few) = c.in-Some.ensures.some in
    rw (to_z-of_z w128 c.length-length.result (record { sfits = c.length-length.type_inv }))
    (form_read (points_are c.args.rules.now.circuit.now c.args.rules.now.scale c.args.number
    c.args.scan.now.words
    c.in-Some.points (sym c.len.ensures ∙ all) some few)
    (takes_then (c.exactly.ensures circuit) (takes_then (c.read_point-place.ensures circuit)
    (takes_then (c.length-length.ensures circuit) (takes_then (c.exactly-2.ensures circuit)
    (c.read_corners-corners.ensures.taken circuit)))))
    (λ are holds. let (_, (place, (edge, (_, each)))) = holds in record {
      words_are = are;
      place = place;
      edge = edge;
      wire = record {
        some = some;
        few = few;
        padded = c.read_corners-corners.ensures.padded;
        each = each;
      };
    }))
