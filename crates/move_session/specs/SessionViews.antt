-- The fields of a session as its state.
use Rattle.std.specs.Prelude.{◌≡◌, length}
use Rattle.cts_model.specs.Vocabulary.{AreTreeSinks, IsTopology}
use Rattle.merge_up.specs.Merging.{IsMerged, KeepsAllEnds}
use Rattle.merge_up.specs.Works.{IsFit, IsSettled}
use Rattle.move_session.specs.Sessions.{SessionState}
use Rattle.move_session.specs.declared.session.Session.TheInside.{Inside}
use Rattle.place_down.specs.Trees.{HasTreeNumbers, IsPlacedTree, IsTreeSource}

-- what the session says of its tree stands in its work
abbrev pub state_of : Inside → SessionState
state_of session = record {
  sinks = session.sinks;
  merges = session.topology.merges;
  source = session.source;
  tree = session.work.tree;
  shows = session.work.shows;
  renewals = session.work.renewals;
}

-- the work is settled, and has for the sinks as they are now what merging and placing promise
pub record IsUpToDate (session : Inside) : Type 0 where
  pub sinks : AreTreeSinks session.sinks
  pub topology : IsTopology (length session.sinks) session.topology.merges
  pub source : IsTreeSource session.source
  pub room : session.work.room ≡ length session.sinks
  pub fit : IsFit session.work
  pub merged : IsMerged session.sinks session.topology.merges session.work
  pub kept : KeepsAllEnds session.sinks session.topology.merges session.work
  pub placed : IsPlacedTree session.sinks session.topology.merges session.source
      session.work.tree session.work.shows
  pub numbers : HasTreeNumbers session.work.tree
  pub settled : IsSettled session.work
