-- The words that the contracts of this crate have in common.
pub use Rattle.std.specs.Str.Parse.{digits_value}
pub use Rattle.cts_base.specs.LineFormats.{IsToldBy}
pub use Rattle.cts_base.specs.NumberTexts.{is_plain_numeral}
pub use Rattle.cts_model.specs.declared.tree.Topology.{Topology}
pub use Rattle.topology_file.specs.Entries.{is_entry, merge_of}
pub use Rattle.topology_file.specs.Kept.{kept_number, kept_merge}
pub use Rattle.topology_file.specs.TopologyTexts.{AreEntries, IsTopologyText, topology_in}
pub use Rattle.topology_file.specs.declared.fault.TopologyFault.{TopologyFault}
