-- The calls of a memory form that fail, by their numbers, and what it has counted so far.
use Rattle.std.specs.Prelude.{ℕ, ◌==◌, ◌&&◌, ◌||◌, Bool, List, length, nat_lt, nat_le, is_none}
use Rattle.std.specs.List.{list_any}
use Rattle.op_base.specs.Maps.{value_at}
use Rattle.op_edges.specs.Causes.{next_count, count_after}
use Rattle.op_edges.specs.Folders.{Folders, files_of}
use Rattle.op_edges.specs.declared.plan.Plan.{Plan}

-- nothing was called yet
abbrev pub fresh_plan : List ℕ → Plan
fresh_plan fails = record { fails = fails; calls = 0; faults = 0 }

-- the next call is one of those that fail; calls are counted from 1
abbrev pub fails_next : Plan → Bool
fails_next plan = list_any (λ number. number == next_count plan.calls) plan.fails

-- one more call, which failed or didn't
abbrev pub after_call : Bool → Plan → Plan
after_call failed plan = record plan { calls = next_count plan.calls; faults = count_after failed plan.faults }

-- the bytes left of a source in memory
pub record SourceState : Type 0 where
  pub left : List ℕ
  pub plan : Plan

-- the bytes taken by a sink in memory, and how many it has room for
pub record SinkState : Type 0 where
  pub taken : List ℕ
  pub room : ℕ
  pub plan : Plan

-- no room is left for the first byte of a piece
abbrev pub is_full : ℕ → List ℕ → List ℕ → Bool
is_full room taken piece = nat_lt 0 (length piece) && nat_le room (length taken)

-- a write fails: by its number, or for want of room
abbrev pub refuses : SinkState → List ℕ → Bool
refuses sink piece = fails_next sink.plan || is_full sink.room sink.taken piece

-- the folders in memory
pub record FolderState : Type 0 where
  pub content : Folders
  pub plan : Plan

-- a listing fails: by its number, or for want of the folder
abbrev pub refuses_list : FolderState → List ℕ → Bool
refuses_list folder dir = fails_next folder.plan || is_none (value_at folder.content dir)

-- a reading of a file fails: by its number, or for want of the file
abbrev pub refuses_file : FolderState → List ℕ → List ℕ → Bool
refuses_file folder dir name = fails_next folder.plan || is_none (value_at (files_of folder.content dir) name)
