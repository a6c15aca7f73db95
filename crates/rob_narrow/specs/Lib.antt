pub mod NarrowPrograms
