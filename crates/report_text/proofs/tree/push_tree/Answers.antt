use Rattle.report_text.proofs.Vocabulary.{◌∷◌, [], ◌++◌, length, codes, count_line, length_text, lines_below, merge_line_at, node_line_at, source_line}
use Rattle.report_text.proofs.LineLemmas.{lines_more, one_line}
use Rattle.report_text.proofs.tree.push_tree.Goals as goal

pub returns : goal.returns
returns c =
    let report = c.args.printed.now.report.now in
    let circuit = c.args.printed.now.circuit.now in
    let merges = count_line (codes "merges") (length report.topology.merges) in
    let merge_lines = lines_below (merge_line_at circuit report) (length report.topology.merges) in
    let source = source_line circuit report in
    let nodes = count_line (codes "nodes") (length report.tree.length) in
    let node_lines = lines_below (node_line_at circuit report) (length report.tree.length) in
    let total = codes "wire" ∷ length_text report report.total ∷ [] in
    let merged = lines_more _ _ _ (merges ∷ []) _ (one_line _ _ merges (rw c.len.ensures at
    c.in_ok-push_count.ensures)) c.in_ok-push_merges.ensures in
    let counted = lines_more _ _ _ (source ∷ []) (nodes ∷ []) (one_line _ _ source
    c.in_ok-push_source.ensures) (one_line _ _ nodes (rw c.len-2.ensures at
    c.in_ok-push_count-2.ensures)) in
    let placed = lines_more _ _ _ (source ∷ nodes ∷ []) _ counted c.in_ok-push_nodes.ensures in
    let both = lines_more _ _ _ (merges ∷ merge_lines)
    (source ∷ nodes ∷ node_lines) merged placed in
    lines_more _ _ _ (merges ∷ merge_lines ++ source ∷ nodes ∷ node_lines)
    (total ∷ []) both (one_line _ _ total c.in_ok-push_total.ensures)
