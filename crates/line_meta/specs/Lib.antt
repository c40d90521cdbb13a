pub mod Metas
